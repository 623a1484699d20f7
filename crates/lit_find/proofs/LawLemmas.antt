-- A file has one test: its path tells the suite, and the rest of the path below the suite's root.
use Rattle.lit_find.proofs.Names.{◌≡◌, ◌++◌, length, drop, Some, sym, ap, ◌∙◌, subst, Test, Parts, dir_of, Rooted, nearest}
use Rattle.std.proofs.Math.Seq.{drop-append_seam}
use Rattle.tt_outside.proofs.EqualLemmas.{equal_tests}
use Rattle.lit_paths.proofs.LawLemmas.{texts_tell_paths}
use Rattle.lit_suite.specs.declared.suite_file.Suite.{Suite}
use Rattle.lit_dirs.specs.Tests.{IsTestOf}
use Rattle.lit_find.specs.Laws.{IsOneTest}

made_once : (root : Parts) (suite : Suite) (below : Parts) (one other : Test) → IsTestOf root suite below one
    → IsTestOf root suite below other → one ≡ other
made_once root suite below one other made again =
    equal_tests one other (made.named ∙ sym again.named) (made.file ∙ sym again.file) (made.source ∙ sym again.source)
    (made.work ∙ sym again.work) (made.temps ∙ sym again.temps) (made.temporary ∙ sym again.temporary)
    (made.features ∙ sym again.features) (made.substitutions ∙ sym again.substitutions) (made.tools ∙ sym again.tools)
    (made.environment ∙ sym again.environment)

same_rest : (root below rest : Parts) → root ++ below ≡ root ++ rest → below ≡ rest
same_rest root below rest same =
    sym (drop-append_seam root below) ∙ ap (drop (length root)) same ∙ drop-append_seam root rest

pub one_test : IsOneTest
one_test nodes words others one other first second same =
    let path = texts_tell_paths (first.rooted.root ++ first.below) (second.rooted.root ++ second.below) first.parts
    second.parts (sym first.made.file ∙ same ∙ second.made.file) in
    let both : Some first.rooted ≡ Some second.rooted =
    sym first.suite ∙ ap (λ x. nearest nodes (dir_of x)) path ∙ second.suite in
    let rooted : first.rooted ≡ second.rooted = cc in
    let below = same_rest second.rooted.root first.below second.below
    (ap (λ (x : Rooted). x.root ++ first.below) (sym rooted) ∙ path) in
    made_once second.rooted.root second.rooted.suite second.below one other
    (subst (λ rest. IsTestOf second.rooted.root second.rooted.suite rest one) below
    (subst (λ (x : Rooted). IsTestOf x.root x.suite first.below one) rooted first.made)) second.made

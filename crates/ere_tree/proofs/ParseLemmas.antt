-- What is read within the limit of size is an expression of the grammar, and each such expression is read.
use Rattle.std.proofs.Common.{◌≡◌, ℕ, ◌≤◌, Bool, true, false, cond, List, Result, Ok, Err, nat_le, refl, sym, ap, subst, ◌∙◌, arith}
use Rattle.std.specs.Result.{IfOk}
use Rattle.std.proofs.lemmas.Bool.Decides.{nat_tests}
use Rattle.ere_tree.specs.Tree.{Tree}
use Rattle.ere_tree.specs.View.{view}
use Rattle.ere_tree.specs.Shape.{size_of}
use Rattle.ere_tree.specs.Fault.{fault}
use Rattle.ere_tree.specs.Grammar.{tree_read, sized, reading, Reads}
use Rattle.ere_tree.specs.Productions.{IsEre}
use Rattle.ere_tree.specs.declared.ere.Ere.{Ere}
use Rattle.ere_tree.specs.declared.fault.EreFail.{EreFail}
use Rattle.ere_tree.specs.declared.fault.EreFault.{EreFault}
use Rattle.ere_tree.specs.declared.fault.EreKind.TheVariants.{TooLarge}
use Rattle.ere_tree.proofs.CompleteLemmas.{grammar_read}
use Rattle.ere_tree.proofs.SoundLemmas.{read_grammar}

let_in : (v : Bool) (tree told : Tree) → cond v (Ok tree) (fault 0 TooLarge) ≡ Ok told → (v ≡ true) × (tree ≡ told)
let_in true tree told is = (refl, cc)
let_in false tree told is = cc

sized_ok : (read : Result Tree EreFault) (told : Tree) → sized read ≡ Ok told →
    (read ≡ Ok told) × (size_of told ≤ 100000)
sized_ok (Err refused) told is = cc
sized_ok (Ok tree) told is =
    let both = let_in (nat_le (size_of tree) 100000) tree told is in
    let small : nat_le (size_of told) 100000 ≡ true = ap (λ t. nat_le (size_of t) 100000) (sym both.1) ∙ both.0 in
    (ap Ok both.1, grind (arith, nat_tests))

pub read_in_grammar : (result : Result Ere EreFail) (fold : Bool) (text : List ℕ) → Reads result (reading fold text) →
    IfOk result (λ ere. IsEre fold text (view ere) × (size_of (view ere) ≤ 100000))
unfolding reading
read_in_grammar (Ok ere) fold text is =
    let found = sized_ok (tree_read fold text) (view ere) is in
    (read_grammar fold text (view ere) found.0, found.1)
read_in_grammar (Err fail) fold text is = tt

pub grammar_is_read : (result : Result Ere EreFail) (fold : Bool) (text : List ℕ) → Reads result (reading fold text) →
    (tree : Tree) → IsEre fold text tree → size_of tree ≤ 100000 → Reads result (Ok tree)
unfolding reading
grammar_is_read result fold text is tree grammar fits =
    let small : nat_le (size_of tree) 100000 ≡ true = grind (arith, nat_tests) in
    let read : reading fold text ≡ Ok tree = ap sized (grammar_read fold text tree grammar) ∙ rw small refl in
    subst (λ (r : Result Tree EreFault). Reads result r) read is

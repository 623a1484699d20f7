-- A report grows part by part, and each test is counted once.
-- By induction over the tests: the part of the last one stands behind those before it, and its result adds one to one of the counts.
-- `counts_each` is the hard one, a sum over all results.
use Rattle.std.proofs.Common.{◌≡◌, ℕ, ◌+◌, Bool, true, false, if◌then◌else◌, List, [], ◌∷◌, ◌++◌, length, append_assoc, append-nil, sym, ap, ◌∙◌, refl, arith}
use Rattle.lit_words.specs.declared.asked.Detail.{Detail}
use Rattle.test_outcome.specs.Outcome.{is_same}
use Rattle.test_outcome.specs.declared.outcome.Outcome.{Outcome}
use Rattle.test_outcome.specs.declared.outcome.Outcome.TheVariants.{Pass, Flakypass, Fail, Xfail, Xpass, Unsupported, Unresolved}
use Rattle.lit_report.specs.Ending.{count_of, those}
use Rattle.lit_report.specs.Laws.{CountsEach, GrowsByParts}
use Rattle.lit_report.specs.Report.{TestReport, header, part_of, parts_from, running}

parts_grow : (detail : Detail) (tests place : ℕ) (told : List TestReport) (test : TestReport)
    → parts_from detail tests place (told ++ test ∷ [])
    ≡ parts_from detail tests place told ++ part_of detail tests (place + length told) test
parts_grow detail tests place [] test =
    append-nil (part_of detail tests place test) ∙ ap (λ n. part_of detail tests n test) (omega arith)
parts_grow detail tests place (one ∷ told) test =
    ap (λ bytes. part_of detail tests place one ++ bytes) (parts_grow detail tests (place + 1) told test)
    ∙ sym (append_assoc (part_of detail tests place one) (parts_from detail tests (place + 1) told)
    (part_of detail tests (place + 1 + length told) test))
    ∙ ap (λ n. (part_of detail tests place one ++ parts_from detail tests (place + 1) told) ++ part_of detail tests n test)
    (omega arith)

pub grows_by_parts : GrowsByParts
grows_by_parts detail tests told test =
    ap (λ bytes. header detail tests ++ bytes) (parts_grow detail tests 0 told test)
    ∙ sym (append_assoc (header detail tests) (parts_from detail tests 0 told)
    (part_of detail tests (0 + length told) test))
    ∙ ap (λ n. running detail tests told ++ part_of detail tests n test) (omega arith)

-- ---- each test is counted once

-- whether a test has a result, as a number
abbrev one_of : Outcome → Outcome → ℕ
one_of result its = if is_same its result then 1 else 0

ones : (its : Outcome)
    → one_of Unsupported its + one_of Pass its + one_of Flakypass its + one_of Xfail its + one_of Unresolved its
    + one_of Fail its + one_of Xpass its ≡ 1
ones Pass = refl
ones Flakypass = refl
ones Fail = refl
ones Xfail = refl
ones Xpass = refl
ones Unsupported = refl
ones Unresolved = refl

longer : (has : Bool) (test : TestReport) (rest : List TestReport)
    → length (if has then test ∷ rest else rest) ≡ (if has then 1 else 0) + length rest
longer true test rest = omega arith
longer false test rest = omega arith

more : (result : Outcome) (test : TestReport) (told : List TestReport)
    → count_of result (test ∷ told) ≡ one_of result test.result + count_of result told
more result test told = longer (is_same test.result result) test (those result told)

pub counts_each : CountsEach
counts_each [] = refl
counts_each (test ∷ told) =
    omega (
      arith,
      more Unsupported test told,
      more Pass test told,
      more Flakypass test told,
      more Xfail test told,
      more Unresolved test told,
      more Fail test told,
      more Xpass test told,
      ones test.result,
      counts_each told,
    )

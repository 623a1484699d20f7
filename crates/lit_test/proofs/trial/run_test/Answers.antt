use Rattle.std.proofs.Common.{◌≤◌, [], length, sym, ap, arith}
use Rattle.test_course.specs.Bytes.{MAX_KEPT}
use Rattle.test_course.proofs.EntryLemmas.{AreGiven_same}
use Rattle.test_course.proofs.LawLemmas.{few_bytes, few_entries}
use Rattle.lit_test.specs.Trial.{course_of}
use Rattle.lit_test.specs.declared.outcome.Ending.{Ending}
use Rattle.lit_test.proofs.EndingLemmas.{last_begun, some_begun, trial_of}
use Rattle.lit_test.proofs.trial.run_test.Goals as goal

pub run_begun-requires-clause-begun : goal.run_begun-requires-clause-begun
run_begun-requires-clause-begun g c = some_begun _ _ _ c.begin.ensures.begun

pub returns-clause-trial : goal.returns-clause-trial
returns-clause-trial g c =
    trial_of _ _ c.args.test.now c.in_ok-test.test _ c.in_ok-ending.ending c.in_ok-test.ensures c.in_ok-ending.ensures.ends

pub returns-clause-given : goal.returns-clause-given
returns-clause-given g c =
    AreGiven_same _ _ c.begin.ensures.gave c.args.number [] _
    (rw (last_begun _ _ _ c.begin.ensures.begun) at c.in_ok-ending.ensures.ends.given)

pub returns-clause-few : goal.returns-clause-few
returns-clause-few g c = few_entries (course_of c.in_ok-test.test) _ c.in_ok-ending.ensures.ends.trace.asked

pub returns-clause-asked : goal.returns-clause-asked
returns-clause-asked g c =
    let few : length c.run_begun.new.entries ≤ MAX_KEPT =
    few_entries (course_of c.in_ok-test.test) _ c.in_ok-ending.ensures.ends.trace.asked in
    let counted = c.in_ok-ending.ensures.answered.asked (omega (arith, few, c.begin.ensures.asked, c.requires.asked)) in
    omega (arith, counted, c.begin.ensures.asked)

pub invariant_of-result : goal.invariant_of-result
invariant_of-result g c =
    let ends = c.in_ok-ending.ensures.ends in
    record {
      ended = ap (λ (x : Ending). x.outcome) (sym ends.told);
      told = ap (λ (x : Ending). x.text) (sym ends.told);
      light = few_bytes (course_of c.in_ok-test.test) _ ends.trace.asked (c.in_ok-ending.ensures.answered.limited tt);
    }

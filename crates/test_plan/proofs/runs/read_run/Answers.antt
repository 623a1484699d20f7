use Rattle.std.proofs.Common.{◌≡◌, None, Some, refl, subst, sym}
use Rattle.substs.specs.Expansion.{AreNamed}
use Rattle.test_plan.specs.RunLines.{expanded}
use Rattle.test_plan.proofs.PlanLemmas.{pairs_named}
use Rattle.test_plan.proofs.RunLemmas.{expanded_as, line_read, line_refused}
use Rattle.test_plan.proofs.runs.read_run.Goals as goal

pub expand-requires-clause-named : goal.expand-requires-clause-named
expand-requires-clause-named c = subst (λ pairs. AreNamed pairs) (sym c.requires) (pairs_named c.args.test.now)

pub returns-in-Ok-parse_line : goal.returns-in-Ok-parse_line
returns-in-Ok-parse_line c =
    let text : expanded c.args.test.now c.args.run.now ≡ Some c.in-Ok.text =
    expanded_as c.args.test.now c.args.run.now _ _ _ _ c.in-Ok.ensures.0 c.requires c.len.ensures c.as_slice.ensures in
    line_read c.args.test.now c.args.run.now c.in-Ok.text c.in-Ok-parse_line.line text
    (rw c.as_slice-in-Ok.ensures at c.in-Ok-parse_line.ensures.value)

pub returns-in-Err-Bad : goal.returns-in-Err-Bad
returns-in-Err-Bad c =
    let text : expanded c.args.test.now c.args.run.now ≡ Some c.in-Ok.text =
    expanded_as c.args.test.now c.args.run.now _ _ _ _ c.in-Ok.ensures.0 c.requires c.len.ensures c.as_slice.ensures in
    let told = rw c.in-Err-Bad.field-0-is at c.in-Err-Bad.ensures.value in
    line_refused c.args.test.now c.args.run.now c.in-Ok.text c.in-Err-Bad.fault text (rw c.as_slice-in-Ok.ensures at told)

pub returns-in-Err-TooLong : goal.returns-in-Err-TooLong
returns-in-Err-TooLong c =
    let long = rw c.in-Err-TooLong.field-0-is at c.in-Err-TooLong.ensures in
    let none : expanded c.args.test.now c.args.run.now ≡ None =
    expanded_as c.args.test.now c.args.run.now _ _ _ _ long c.requires c.len.ensures c.as_slice.ensures in
    rw none refl

use Rattle.lit_directives.specs.Script.{directives_of, script_view}
use Rattle.test_plan.proofs.PlanLemmas.{script_few, script_patient}
use Rattle.test_plan.proofs.plan.by_text.Goals as goal

pub by_script-requires-clause-few : goal.by_script-requires-clause-few
by_script-requires-clause-few c =
    script_few (directives_of c.args.text.now) (script_view c.in-Ok.script) c.in-Ok.ensures.runs c.in-Ok.ensures.lists

pub by_script-requires-clause-patient : goal.by_script-requires-clause-patient
by_script-requires-clause-patient c =
    script_patient (directives_of c.args.text.now) (script_view c.in-Ok.script) c.in-Ok.ensures.lists

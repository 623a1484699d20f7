use Rattle.std.proofs.Common.{◌≡◌, true, List, sym, subst, ◌∙◌}
use Rattle.lit_words.specs.Asked.{wanted}
use Rattle.tt_outside.specs.declared.test_data.Test.{Test}
use Rattle.lit_tool.specs.Run.{TestsFrom, call, tree}
use Rattle.lit_tool.proofs.CallLemmas.{told_run}
use Rattle.run_report.specs.Run.{are_told}
use Rattle.lit_tool.proofs.run.run.Goals as goal

pub returns-else-not-are_told-clause-runs : goal.returns-else-not-are_told-clause-runs
returns-else-not-are_told-clause-runs g c =
    let asked = wanted c.args.asked.now in
    let from = subst (TestsFrom (tree g.T.Tree c.args.from.now c.tests_from.new.from) asked) c.in-Ok-Ok.field-0-is c.in-Ok-Ok.ensures.value in
    let told = subst (λ (ts : List Test). are_told asked.detail ts ≡ true) c.as_slice.ensures
    (sym c.are_told.ensures ∙ c.if-not-are_told.false) in
    told_run asked c.in-Ok-Ok.tests
    (call g.T.Tree g.C.Crew g.O.Sink g.E.Sink c.args.from.now c.tests_from.new.from c.args.crew.now c.run_and_report.new.from
    c.args.out.now c.run_and_report.new.out c.args.err.now c.run_and_report.new.err)
    c.run_and_report.result from told c.run_and_report.ensures.ends

use Rattle.opt_words.specs.Step.{texts}
use Rattle.lit_tool.specs.Run.{call}
use Rattle.lit_tool.proofs.FaultLemmas.{fault_of_call, fault_of_streams}
use Rattle.lit_tool.proofs.run.lit_run.Goals as goal

pub returns-clause-fault : goal.returns-clause-fault
returns-clause-fault g c =
    fault_of_call (texts c.args.words.now)
    (call g.T.Tree g.C.Crew g.O.Sink g.E.Sink c.args.from.now c.lit_on.new.from
    c.args.crew.now c.lit_on.new.crew c.args.out.now c.lit_on.new.out c.args.err.now c.lit_on.new.err) c.lit_on.result
    c.lit_on.ensures.ends

pub returns-clause-steady : goal.returns-clause-steady
returns-clause-steady g c =
    fault_of_streams (texts c.args.words.now)
    (call g.T.Tree g.C.Crew g.O.Sink g.E.Sink c.args.from.now c.lit_on.new.from
    c.args.crew.now c.lit_on.new.crew c.args.out.now c.lit_on.new.out c.args.err.now c.lit_on.new.err) c.lit_on.result
    c.lit_on.ensures.ends

use Rattle.check_hints.proofs.at_fault.run_before.Goals as goal

pub faults_in-requires-clause-ready : goal.faults_in-requires-clause-ready
faults_in-requires-clause-ready c = c.met_before.ensures c.args.vars.now c.requires

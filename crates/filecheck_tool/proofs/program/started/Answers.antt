use Rattle.filecheck_tool.proofs.program.started.Goals as goal

pub returns-clause-ready : goal.returns-clause-ready
returns-clause-ready c file are = record {
  ready = c.requires.ready c.in_ok-vars.vars c.in_ok-vars.ensures.placed;
  always_ready = c.requires.always_ready c.in_ok-vars.vars c.in_ok-vars.ensures.placed;
  numbers = are;
}

use Rattle.std.proofs.Common.{◌≡◌, drop}
use Rattle.pattern_vars.specs.Vars.{have_places}
use Rattle.pattern_vars.proofs.vars.Vars.have_places.Given as goal

abbrev pub invariant-loop-binding : goal.invariant-loop-binding
invariant-loop-binding l = have_places l.self (drop l.binding-index l.fresh) ≡ have_places l.self l.fresh

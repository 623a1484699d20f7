use Rattle.std.proofs.Common.{◌+◌, arith, drop, subst}
use Rattle.check_group.specs.Near.{AreFirstsOf}
use Rattle.check_group.proofs.NearLemmas.{begins_behind}
use Rattle.check_group.proofs.near.earliest.Goals as goal

pub returns-in-Some-Some-clause-nowhere : goal.returns-in-Some-Some-clause-nowhere
returns-in-Some-Some-clause-nowhere c =
    let a = c.args in
    begins_behind a.text.now c.in-Some-Some.needle.now a.check.now a.place c.earliest.result (a.place + c.min.result)
    c.in-Some-Some.ensures c.requires.here
    (c.earliest.ensures (drop a.place a.text.now)
    (subst (λ known. AreFirstsOf (drop a.place a.text.now) known) c.in-Some-Some.is-0 c.requires.known))
    (grind (arith, c.min.ensures))

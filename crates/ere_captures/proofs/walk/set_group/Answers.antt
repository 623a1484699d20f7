use Rattle.std.proofs.Common.{refl, arith}
use Rattle.ere_captures.proofs.WalkLemmas.{group_set, group_zero}
use Rattle.ere_captures.proofs.walk.set_group.Goals as goal

pub returns-then-number-gt0 : goal.returns-then-number-gt0
returns-then-number-gt0 c = λ d is.
    group_set c.args.part.start d _ c.args.number c.args.part.from c.args.part.to c.args.caps.now _
    c.requires.number c.if-number-gt0.true is refl

pub returns-else-number-gt0 : goal.returns-else-number-gt0
returns-else-number-gt0 c = λ d is.
    group_zero c.args.part.start d _ c.args.number c.args.part.from c.args.part.to c.args.caps.now (omega arith) is

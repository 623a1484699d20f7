use Rattle.std.proofs.Common.{refl, arith}
use Rattle.ere_captures.proofs.WalkLemmas.{group_set, group_zero}
use Rattle.ere_refs.proofs.held.with_group.Goals as goal

pub returns-then-number-gt0-clause-set : goal.returns-then-number-gt0-clause-set
returns-then-number-gt0-clause-set c = λ d is.
    group_set c.args.part.start d _ c.args.number c.args.part.from c.args.part.to c.args.held.items _
    (omega (arith, c.requires.number, c.args.held.ok)) c.if-number-gt0.true is refl

pub returns-else-number-gt0-clause-set : goal.returns-else-number-gt0-clause-set
returns-else-number-gt0-clause-set c = λ d is.
    group_zero c.args.part.start d _ c.args.number c.args.part.from c.args.part.to c.args.held.items (omega arith) is

use Rattle.std.proofs.Common.{◌<◌, length, sym, arith}
use Rattle.ere_refs.proofs.kept.Kept.is_there.Goals as goal

pub returns-then-index-len : goal.returns-then-index-len
returns-then-index-len c = λ like.
    let low : c.args.index < length c.args.self.now.states.items = omega (arith, c.if-index-len.true, c.len.ensures, c.args.self.now.states.ok) in
    (c.index.result.now, (c.args.index, low, sym c.index.ensures), c.is_like.ensures like)

use Rattle.std.proofs.Common.{refl, inr}
use Rattle.ere_refs.proofs.lists.put_found.Goals as goal

pub returns-then-has : goal.returns-then-has
returns-then-has c =
    let like = c.has.ensures c.if-has.true in
    inr (refl, (like.0, like.1, like.2.2))

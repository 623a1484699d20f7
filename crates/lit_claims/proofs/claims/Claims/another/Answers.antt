use Rattle.std.proofs.Common.{arith}
use Rattle.lit_claims.proofs.RuleLemmas.{splits}
use Rattle.lit_claims.proofs.claims.Claims.another.Goals as goal

pub split_seat-requires : goal.split_seat-requires
split_seat-requires c =
    let r = c.requires in (
      r.own.0,
      (let one = c.args.self.now.one_word in omega arith),
      (λ s holds at. splits s.words s.views _ _ holds at r.shares r.own.1),
    )

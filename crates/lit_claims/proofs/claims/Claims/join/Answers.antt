use Rattle.std.proofs.Common.{arith}
use Rattle.lit_claims.proofs.RuleLemmas.{joins}
use Rattle.lit_claims.proofs.claims.Claims.join.Goals as goal

pub join_seat-requires : goal.join_seat-requires
join_seat-requires c =
    let own = c.requires.own in (
      own.0,
      own.1,
      c.args.other.no_slot,
      (let one = c.args.self.now.one_word in omega arith),
      (λ s holds at apart there. joins s.words s.views _ _ holds at _ _ apart there c.args.seat.now.some_share),
    )

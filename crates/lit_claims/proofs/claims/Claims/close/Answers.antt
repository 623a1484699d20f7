use Rattle.lit_claims.proofs.RuleLemmas.{closes_at}
use Rattle.lit_claims.proofs.claims.Claims.close.Goals as goal

pub returns : goal.returns
returns c =
    let last = c.close_with-closed.ensures.values.2 in
    closes_at last.0.words last.0.views c.args.seat.seat.id c.args.seat.seat.me.0 last.1.0 last.1.1 _ _ c.requires.all last.2
    c.word-drawn.ensures

use Rattle.std.proofs.Common.{arith, refl, ◌++◌, ◌∷◌, [], slice_index}
use Rattle.atomic_table.specs.Table.{keeps}
use Rattle.lit_claims.specs.Claimed.{view_of}
use Rattle.lit_claims.proofs.RuleLemmas.{below_word, draws}
use Rattle.lit_claims.proofs.claims.Claims.draw.Goals as goal

pub fetch_add-requires : goal.fetch_add-requires
fetch_add-requires c =
    let seat = c.args.seat.now in
    let v = seat.seat.me.0 in (
      c.requires.own,
      (let one = c.args.self.now.one_word in omega arith),
      (λ s holds homes at small. (
        view_of v.share (v.drawn ++ slice_index s.words 0 ∷ []),
        keeps,
        tt,
        draws s.words s.views _ v holds at c.requires.early seat.some_share,
        ((refl, below_word s.words s.views _ v holds at), refl),
      )),
    )

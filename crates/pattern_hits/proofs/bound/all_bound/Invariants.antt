use Rattle.std.proofs.Common.{◌≡◌, drop}
use Rattle.pattern_hits.specs.Bound.{all_bound, behind_bound}
use Rattle.pattern_hits.proofs.bound.all_bound.Given as goal

abbrev pub invariant-loop-gift : goal.invariant-loop-gift
invariant-loop-gift l =
    behind_bound l.fresh (all_bound l.fold l.text l.groups (drop l.gift-index l.gifts))
    ≡ all_bound l.fold l.text l.groups l.gifts

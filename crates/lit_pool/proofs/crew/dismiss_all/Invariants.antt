use Rattle.std.proofs.Common.{◌≡◌, ◌+◌, ◌++◌, length, reverse}
use Rattle.std.specs.List.{All}
use Rattle.tt_outside.specs.Gave.{SameGave}
use Rattle.lit_round.specs.Hands.{IsHandOf, all_left}
use Rattle.lit_pool.proofs.crew.dismiss_all.Given as goal

abbrev pub decreases-loop-hand : goal.decreases-loop-hand
decreases-loop-hand g l = length l.hands.items

abbrev pub invariant-loop-hand : goal.invariant-loop-hand
invariant-loop-hand g l = record {
  hands : g.C.Crew.hands l.crew ++ all_left g.C.Hand.Runner (reverse l.hands.items)
      ≡ g.C.Crew.hands l.fn.crew ++ all_left g.C.Hand.Runner l.fn.hands.items;
  seats : g.C.Crew.seats l.crew + length l.fn.hands.items ≡ g.C.Crew.seats l.fn.crew + length l.hands.items;
  own : All (IsHandOf g.C.Hand.Runner (g.C.Crew.gave l.fn.crew)) l.hands.items;
  gave : SameGave (g.C.Crew.gave l.crew) (g.C.Crew.gave l.fn.crew);
  ready : g.C.Crew.ready l.fn.crew → g.C.Crew.ready l.crew;
}

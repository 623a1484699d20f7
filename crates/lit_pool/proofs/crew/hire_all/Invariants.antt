use Rattle.std.proofs.Common.{◌≡◌, ◌+◌, replicate, vec_capacity, vec_len}
use Rattle.std.specs.List.{All}
use Rattle.tt_outside.specs.Gave.{SameGave}
use Rattle.lit_round.specs.Hands.{IsHandOf, all_left, rooms_of}
use Rattle.lit_pool.specs.Crew.{nothing_left}
use Rattle.lit_pool.proofs.crew.hire_all.Given as goal

abbrev pub invariant-loop : goal.invariant-loop
invariant-loop g l = record {
  count : vec_len l.hands ≡ l.counter;
  space : vec_capacity l.hands ≡ l.workers;
  fresh : all_left g.C.Hand.Runner l.hands.items ≡ replicate l.counter nothing_left;
  rooms : rooms_of g.C.Hand.Runner l.hands.items ≡ replicate l.counter l.room;
  own : All (IsHandOf g.C.Hand.Runner (g.C.Crew.gave l.fn.crew)) l.hands.items;
  hands : g.C.Crew.hands l.crew ≡ g.C.Crew.hands l.fn.crew;
  seats : g.C.Crew.seats l.crew ≡ g.C.Crew.seats l.fn.crew + l.counter;
  gave : SameGave (g.C.Crew.gave l.crew) (g.C.Crew.gave l.fn.crew);
  ready : g.C.Crew.ready l.crew;
}

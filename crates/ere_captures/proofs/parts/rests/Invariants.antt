use Rattle.std.proofs.Common.{◌≡◌, ◌+◌, ◌-◌, ℕ, length, map, drop}
use Rattle.std.specs.List.{All}
use Rattle.ere_places.specs.Places.{IsInside}
use Rattle.ere_tree.specs.View.{view}
use Rattle.ere_captures.proofs.RestsLemmas.{AreRest, EachLeads}
use Rattle.ere_captures.proofs.parts.rests.Given as goal

abbrev pub invariant-loop-count : goal.invariant-loop-count
invariant-loop-count l = record {
  long : length l.all.items ≡ l.count + 1;
  inside : All (IsInside l.window) l.now.items;
  now : AreRest l.text (drop (length l.parts - l.count) (map view l.parts)) l.from l.to l.now.items;
  each : EachLeads l.text (λ (m : ℕ). drop (length l.parts - m) (map view l.parts)) l.from l.to l.count l.all.items;
}

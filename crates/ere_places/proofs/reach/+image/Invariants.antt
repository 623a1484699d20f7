use Rattle.std.proofs.Common.{◌≡◌, ◌↔◌, ℕ, ◌-◌, ◌≤◌, IsTrue, length, map, take, drop}
use Rattle.std.specs.Prelude.{◌⊎◌}
use Rattle.std.specs.List.{All, Contains}
use Rattle.ere_tree.specs.View.{view}
use Rattle.ere_places.specs.Places.{IsInside, LeadsInside, IsReached}
use Rattle.ere_places.specs.Seen.{is_beyond, is_held}
use Rattle.ere_places.specs.Steps.{Chain, Through, ByOne, in_order}
use Rattle.ere_places.proofs.ListLemmas.{AreSame}
use Rattle.ere_places.proofs.reach.+image.Given as goal

abbrev pub invariant-through-loop-index : goal.invariant-through-loop-index
invariant-through-loop-index l = record {
  inside : All (IsInside l.window) l.now.items;
  rest : (q : ℕ) →
      IsReached (Through l.text l.window (drop l.index (in_order l.window.direction (map view l.parts)))) l.now.items q
      ↔ IsReached (Through l.text l.window (in_order l.window.direction (map view l.parts))) l.from q;
}

abbrev pub invariant-by_one-loop-one : goal.invariant-by_one-loop-one
invariant-by_one-loop-one l = record {
  held : AreSame (is_held l.seen) l.all.items;
  near : All (λ p. IsTrue (is_beyond l.seen.direction l.seen.base p)) l.from;
  direction : l.seen.direction ≡ l.window.direction;
  rest : (q : ℕ) → (Contains l.all.items q
      ⊎ IsReached (ByOne l.text l.window (map view (drop l.one-index l.choices))) l.from q)
      ↔ IsReached (ByOne l.text l.window (map view l.choices)) l.from q;
}

abbrev pub invariant-by_members-loop : goal.invariant-by_members-loop
invariant-by_members-loop l = record {
  held : AreSame (is_held l.seen) l.all.items;
  near : All (λ p. IsTrue (is_beyond l.seen.direction l.seen.base p)) l.all.items;
  direction : l.seen.direction ≡ l.window.direction;
  done : l.done ≤ length l.all.items;
  inside : All (IsInside l.window) l.all.items;
  sound : (q : ℕ) → Contains l.all.items q → (n : ℕ) × (n ≤ l.counter)
      × IsReached (Chain (LeadsInside l.text (view l.inner) l.window) n) l.from q;
  front : (n q : ℕ) → n ≤ l.counter → IsReached (Chain (LeadsInside l.text (view l.inner) l.window) n) l.from q
      → Contains l.all.items q;
  closed : (p q : ℕ) → Contains (take l.done l.all.items) p → LeadsInside l.text (view l.inner) l.window p q
      → Contains l.all.items q;
}

abbrev pub invariant-image_of_repeat-loop : goal.invariant-image_of_repeat-loop
invariant-image_of_repeat-loop l = record {
  inside : All (IsInside l.window) l.now.items;
  rest : (q : ℕ) →
      IsReached (Chain (LeadsInside l.text (view l.inner) l.window) (l.least - l.counter)) l.now.items q
      ↔ IsReached (Chain (LeadsInside l.text (view l.inner) l.window) l.least) l.from q;
}

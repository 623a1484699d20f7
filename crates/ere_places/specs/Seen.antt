-- Sets of places that grow in one direction from a base.
-- Own rule: a set is bits from its base on, so that it costs what it spans, and not where it lies.
use Rattle.std.specs.Prelude.{ℕ, ◌-◌, Bool, ◌&&◌, nat_le}
use Rattle.ere_tree.specs.View.{has_bit}
use Rattle.ere_places.specs.declared.window.Direction.{Direction}
use Rattle.ere_places.specs.declared.window.Direction.TheVariants.{Ahead, Back}
use Rattle.ere_places.specs.declared.seen.Seen.{Seen}

-- whether a place is the base, or lies from it in the direction
abbrev pub is_beyond : Direction → ℕ → ℕ → Bool
is_beyond Ahead base place = nat_le base place
is_beyond Back base place = nat_le place base

-- how far it lies from there
abbrev pub distance : Direction → ℕ → ℕ → ℕ
distance Ahead base place = place - base
distance Back base place = base - place

-- whether a place is in the set
abbrev pub is_held : Seen → ℕ → Bool
is_held seen place =
    is_beyond seen.direction seen.base place && has_bit seen.words.items (distance seen.direction seen.base place)

-- The captures inside a known span.
-- Own rule: POSIX.1 XBD 9.4 fixes the span, and preference among the derivations of that span tells the captures.
use Rattle.std.specs.Prelude.{◌≡◌, ℕ, Option, List}
use Rattle.std.specs.FinMap.{empty}
use Rattle.std.specs.declared.cmp.Ordering.TheVariants.{Less}
use Rattle.ere_tree.specs.Captures.{Captures, caps_of}
use Rattle.ere_tree.specs.Derivation.{Way, Derives}
use Rattle.ere_tree.specs.Preference.{within}
use Rattle.ere_tree.specs.Shape.{greatest_group}
use Rattle.ere_tree.specs.Tree.{Tree}
use Rattle.ere_tree.specs.declared.hit.Cap.{Cap}

-- no way over [i, j) is preferred to this one
abbrev pub IsBest : List ℕ → Tree → Way → ℕ → ℕ → Type 0
IsBest s t w i j = (v : Way) (c d : Captures) → Derives s t v i j c d → within v w ≡ Less → ⊥

-- These are the captures of a derivation over [i, j) to which none over it is preferred, with offsets of a text in
-- which the slice begins at `start`.
pub record AreBestCaps (s : List ℕ) (t : Tree) (i j start : ℕ) (caps : List (Option Cap)) : Type 0 where
  pub way : Way
  pub captures : Captures
  pub shows : Derives s t way i j empty captures
  pub best : IsBest s t way i j
  pub are : caps ≡ caps_of start captures (greatest_group t)

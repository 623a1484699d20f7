-- Expressions with fewer references that match whatever one with all of them matches.
-- Own rule: where a reference gave way to the expression of its group, groups hold what they held, so others mean the same.
use Rattle.std.specs.Prelude.{◌≡◌, ℕ, List, ◌⊎◌}
use Rattle.std.specs.FinMap.{empty}
use Rattle.std.specs.List.{Contains}
use Rattle.ere_tree.specs.Captures.{Captures}
use Rattle.ere_tree.specs.Derivation.{Way, Derives}
use Rattle.ere_tree.specs.Tree.{Tree, Trees, cat, alt, repeat, group, back, none, then}
use Rattle.ere_tree.specs.View.{view}
use Rattle.ere_tree.specs.declared.ere.Ere.{Ere}
use Rattle.ere_relaxed.specs.Relaxed.{AreBytes, Copies, IsAnyText, IsCopy}

-- the second tree is the first, but that references may have given way to the copies of their groups, or to any text
abbrev mutual
  pub IsFreed : Copies → Tree → Tree → Type 0
  IsFreed copies (cat ts) u = (us : Trees) × (u ≡ cat us) × AreFreed copies ts us
  IsFreed copies (alt ts) u = (us : Trees) × (u ≡ alt us) × AreFreed copies ts us
  IsFreed copies (repeat t least most) u = (v : Tree) × (u ≡ repeat v least most) × IsFreed copies t v
  IsFreed copies (group number t) u = (v : Tree) × (u ≡ group number v) × IsFreed copies t v
  IsFreed copies (back number fold) u = (u ≡ back number fold) ⊎ (IsCopy copies number fold u ⊎ IsAnyText u)
  IsFreed copies t u = u ≡ t

  pub AreFreed : Copies → Trees → Trees → Type 0
  AreFreed copies none none = Unit {0}
  AreFreed copies (then t ts) (then u us) = IsFreed copies t u × AreFreed copies ts us
  AreFreed copies ts us = ⊥

-- Whatever the first tree derives in a slice of bytes with no group set before, the second derives over the same part.
abbrev pub StandsFor : Tree → Tree → Type 0
StandsFor t u =
    (s : List ℕ) (w : Way) (i j : ℕ) (d : Captures) → AreBytes s → Derives s t w i j empty d
    → (v : Way) × (e : Captures) × Derives s u v i j empty e

abbrev pub AllStandFor : Tree → List Ere → Type 0
AllStandFor t all = (one : Ere) → Contains all one → StandsFor t (view one)

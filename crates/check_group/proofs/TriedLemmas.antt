-- The chain of tries of one member.
-- Shown: a try that overlaps leads on to a try from the end of the lowest range, and one fewer is left; enough are left.
-- Idea: a try begins behind the one before, so at the text's end none follows. The hard one is `tried_on`.
use Rattle.std.proofs.Common.{◌≡◌, ℕ, zero, suc, ◌+◌, ◌<◌, ◌≤◌, false, cond, ◌&&◌, nat_lt, List, [], ◌∷◌, take, drop, Some, None, Result, Ok, Err, sym, ◌∙◌, ap, refl, arith, All}
use Rattle.std.specs.List.{AllByRecursion}
use Rattle.std.proofs.lemmas.List.Elements.{recursion_from_All}
use Rattle.std.proofs.lemmas.Bool.{le-ltb}
use Rattle.std.proofs.Math.Nat.{le_trans}
use Rattle.tt_base.specs.declared.place.Span.{Span}
use Rattle.check_group.specs.declared.answer.Met.{Met}
use Rattle.check_group.specs.declared.fault.FaultKind.{FaultKind}
use Rattle.check_group.specs.Group.{EndsBy, lowest, moved_on, settled, tried}

not_below : (a b : ℕ) → a ≤ b → nat_lt b a ≡ false
not_below a b low = le-ltb b a low

-- ---- the cursor

-- ranges that end at or before a match's start don't count
lowest_behind : (m : Span) (at : ℕ) (ranges : List Span) → AllByRecursion (EndsBy m.from) (take at ranges) → lowest m ranges ≡ lowest m (drop at ranges)
unfolding lowest
lowest_behind m zero ranges each = refl
lowest_behind m (suc at) [] each = refl
lowest_behind m (suc at) (range ∷ ranges) each =
    ap (λ b. cond (b && nat_lt range.from m.to) (Some range) (lowest m ranges)) (not_below range.to m.from each.0) ∙ lowest_behind m at ranges each.1

pub lowest_drop : (m : Span) (at : ℕ) (ranges : List Span) → All (EndsBy m.from) (take at ranges) → lowest m ranges ≡ lowest m (drop at ranges)
lowest_drop m at ranges each = lowest_behind m at ranges (recursion_from_All (EndsBy m.from) (take at ranges) each)

-- what ends by an offset ends by a later one
pub ends_later : (from to : ℕ) (ranges : List Span) → from ≤ to → All (EndsBy from) ranges → All (EndsBy to) ranges
ends_later from to ranges later each = λ k d low. le_trans (each k d low) later

-- ---- the tries

module _ (try : ℕ → Result Met FaultKind) (ranges : List Span) (from : ℕ) where
  -- a try that ends the chain
  pub tried_last : (left : ℕ) (met : Result Met FaultKind) → met ≡ try from → ((again : ℕ → Result Met FaultKind) → settled ranges met again ≡ met)
      → met ≡ tried try ranges left from
  unfolding tried
  tried_last zero met is ends = is
  tried_last (suc left) met is ends =
      sym (ap (λ t. settled ranges t (tried try ranges left)) (sym is) ∙ ends (tried try ranges left))

  -- one that doesn't find
  pub tried_failed : (left : ℕ) (kind : FaultKind) → Err kind ≡ try from → Err kind ≡ tried try ranges left from
  tried_failed left kind is = tried_last left (Err kind) is (λ again. refl)

  -- one that overlaps nothing
  pub tried_free : (left at : ℕ) (m : Met) → Ok m ≡ try from → All (EndsBy m.span.from) (take at ranges)
      → None ≡ lowest m.span (drop at ranges) → Ok m ≡ tried try ranges left from
  tried_free left at m is passed free =
      tried_last left (Ok m) is (λ again. ap (λ o. moved_on m o again) (lowest_drop m.span at ranges passed ∙ sym free))

  -- one that overlaps is followed by another
  pub tried_on : (left at to : ℕ) (m : Met) (range : Span) → Ok m ≡ try from → All (EndsBy m.span.from) (take at ranges)
      → Some range ≡ lowest m.span (drop at ranges) → from < range.to → range.to ≤ to → to ≤ from + left
      → (fewer : ℕ) × (to ≤ range.to + fewer) × (tried try ranges fewer range.to ≡ tried try ranges left from)
  unfolding tried
  tried_on zero at to m range is passed lower later within enough = absurd (omega (arith, later, within, enough))
  tried_on (suc left) at to m range is passed lower later within enough = (
    left,
    omega (arith, later, within, enough),
    ap (λ o. moved_on m o (tried try ranges left)) (lower ∙ sym (lowest_drop m.span at ranges passed)) ∙ ap (λ t. settled ranges t (tried try ranges left)) is,
  )

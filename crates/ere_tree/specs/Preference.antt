-- Preference: which of two derivations of one expression, from one start and with the same captures, is
-- taken. The greater end after POSIX.1 XBD 9.4, 'the longest'. Own rule: how derivations with one end are
-- told apart.
use Rattle.std.specs.Prelude.{◌≡◌, ◌≢◌, ℕ, List, ◌⊎◌}
use Rattle.std.specs.Ordering.{nat_cmp, ordering_then}
use Rattle.std.specs.declared.cmp.Ordering.{Ordering}
use Rattle.std.specs.declared.cmp.Ordering.TheVariants.{Less, Equal}
use Rattle.ere_tree.specs.Tree.{Tree}
use Rattle.ere_tree.specs.Captures.{Captures}
use Rattle.ere_tree.specs.Derivation.{Way, Ways, parts, members, chosen, inside, next, Derives}

abbrev mutual
  -- of two ways with the same end, `Less` where the first is preferred: the parts or members in order, the
  -- earlier alternative, and what a group holds
  pub within : Way → Way → Ordering
  within (parts ws) (parts vs) = in_order ws vs
  within (members ws) (members vs) = in_order ws vs
  within (chosen m w) (chosen n v) = ordering_then (nat_cmp m n) (within w v)
  within (inside w) (inside v) = within w v
  within w v = Equal

  -- of two rows of ways, the first that differ decide, each by its own greater end first
  pub in_order : Ways → Ways → Ordering
  in_order (next j w ws) (next k v vs) =
      ordering_then (ordering_then (nat_cmp k j) (within w v)) (in_order ws vs)
  in_order ws vs = Equal

-- of two ways with their ends, `Less` where the first is preferred: the greater end comes first
abbrev pub preference : Way → ℕ → Way → ℕ → Ordering
preference w j v k = ordering_then (nat_cmp k j) (within w v)

-- the first way, with its end, is preferred to the second
abbrev pub IsPreferred : Way → ℕ → Way → ℕ → Type 0
IsPreferred w j v k = preference w j v k ≡ Less

-- one of the two holds, and not the other
abbrev pub ExactlyOne : Type 0 → Type 0 → Type 0
ExactlyOne P Q = (P ⊎ Q) × (P → Q → ⊥)

-- The law of preference: of two derivations of one tree in different ways, from one start and with the same
-- captures, exactly one is preferred to the other.
abbrev pub OneIsPreferred : Type 0
OneIsPreferred =
    (s : List ℕ) (t : Tree) (w v : Way) (i j k : ℕ) (c d e : Captures)
    → Derives s t w i j c d → Derives s t v i k c e → w ≢ v
    → ExactlyOne (IsPreferred w j v k) (IsPreferred v k w j)

-- What is preferred to a derivation is preferred to all that it is preferred to.
abbrev pub PreferenceLeadsOn : Type 0
PreferenceLeadsOn =
    (s : List ℕ) (t : Tree) (u w v : Way) (i j k m : ℕ) (c d e f : Captures)
    → Derives s t u i j c d → Derives s t w i k c e → Derives s t v i m c f
    → IsPreferred u j w k → IsPreferred w k v m → IsPreferred u j v m

-- A way tells its derivation: from one start and with the same captures it has one end, and leaves one map
-- of captures.
abbrev pub OneWayOneEnd : Type 0
OneWayOneEnd =
    (s : List ℕ) (t : Tree) (w : Way) (i j k : ℕ) (c d e : Captures)
    → Derives s t w i j c d → Derives s t w i k c e → (j ≡ k) × (d ≡ e)

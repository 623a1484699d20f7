-- Where the shape of a tree tells that it has a byte, each of its derivations moves on. By induction on the tree.
-- The hard case is a repeat: the first member that it must have moves on, and none of the others leads back.
-- `has_byte` looks at no group and no reference: a reference may stand for nothing.
use Rattle.std.proofs.Common.{◌≡◌, ℕ, zero, suc, ◌<◌, ◌≤◌, ◌||◌, Bool, true, false, Some, List, [], ◌∷◌, length, refl, sym, ap, subst, inl, inr, arith, true≢false, nat_lt}
use Rattle.std.specs.Prelude.{◌⊎◌}
use Rattle.std.proofs.lemmas.Bool.{and_parts, ltb-true}
use Rattle.std.proofs.lemmas.Option.{none-some}
use Rattle.ere_tree.proofs.CapturesLemmas.{some_same}
use Rattle.ere_tree.proofs.DerivationLemmas.{is_part, all_are_part, each_is_part, length-part}
use Rattle.ere_tree.specs.Captures.{Captures}
use Rattle.ere_tree.specs.Derivation.{Way, Ways, leaf, parts, members, chosen, inside, done, next, Derives, DerivesAll, DerivesEach, count_of, tree_at}
use Rattle.ere_tree.specs.Tree.{Tree, Trees, empty, plain, set, line_start, line_end, cat, alt, repeat, group, back, none, then}
use Rattle.ere_reach.specs.Moving.{has_byte, one_has_byte, each_has_byte}

either : (a b : Bool) → (a || b) ≡ true → (a ≡ true) ⊎ (b ≡ true)
either true b e = inl refl
either false b e = inr e

abbrev Moves : List ℕ → Tree → Type 0
Moves s t = (w : Way) (i j : ℕ) (c d : Captures) → Derives s t w i j c d → i < j

each_moves : (s : List ℕ) (t : Tree) → Moves s t → (least : ℕ) (ws : Ways) (i j : ℕ) (c d : Captures) → 0 < least
    → least ≤ count_of ws → DerivesEach s t least ws i j c d → i < j
each_moves s t f least done i j c d some enough h = absurd (omega arith)
each_moves s t f zero (next k w ws) i j c d some enough h = absurd (omega arith)
each_moves s t f (suc least) (next k w ws) i j c d some enough h =
    omega (arith, f w i k c h.0 h.1, (each_is_part s t least ws k j h.0 d h.2).0)

mutual
  pub byte_moves : (s : List ℕ) (t : Tree) → has_byte t ≡ true → Moves s t
  byte_moves s (plain []) r w i j c d h = absurd (true≢false (sym r))
  byte_moves s (plain (b ∷ bytes)) r leaf i j c d h =
      omega (arith, h.0.0, length-part s i j h.0.0 h.0.1, ap length h.1)
  byte_moves s (set bytes) r leaf i j c d h = omega (arith, h.0)
  byte_moves s (cat ts) r (parts ws) i j c d h = all_move s ts r ws i j c d h
  byte_moves s (alt ts) r (chosen n w) i j c d h = one_moves s ts r n h.0 h.1 w i j c d h.2
  byte_moves s (repeat t least most) r (members ws) i j c d h =
      let both = and_parts (nat_lt 0 least) (has_byte t) r in
      each_moves s t (byte_moves s t both.1) least ws i j c d (ltb-true 0 least both.0) h.0.0 h.1
  byte_moves s (group number t) r (inside w) i j c d h = byte_moves s t r w i j c h.0 h.1
  byte_moves s empty r w i j c d h = absurd (true≢false (sym r))
  byte_moves s line_start r w i j c d h = absurd (true≢false (sym r))
  byte_moves s line_end r w i j c d h = absurd (true≢false (sym r))
  byte_moves s (back number fold) r w i j c d h = absurd (true≢false (sym r))
  byte_moves s t r w i j c d h = absurd h

  all_move : (s : List ℕ) (ts : Trees) → one_has_byte ts ≡ true → (ws : Ways) (i j : ℕ) (c d : Captures)
      → DerivesAll s ts ws i j c d → i < j
  all_move s none r ws i j c d h = absurd (true≢false (sym r))
  all_move s (then t ts) r (next k w ws) i j c d h =
      elim (either (has_byte t) (one_has_byte ts) r) [
        | inl first ↦
            omega (arith, byte_moves s t first w i k c h.0 h.1, (all_are_part s ts ws k j h.0 d h.2).0)
        | inr rest ↦ omega (arith, (is_part s t w i k c h.0 h.1).0, all_move s ts rest ws k j h.0 d h.2)
      ]
  all_move s ts r ws i j c d h = absurd h

  one_moves : (s : List ℕ) (ts : Trees) → each_has_byte ts ≡ true → (n : ℕ) (t : Tree) → tree_at ts n ≡ Some t
      → Moves s t
  one_moves s none r n t at w i j c d h = absurd (none-some t at)
  one_moves s (then u ts) r zero t at w i j c d h =
      byte_moves s u (and_parts (has_byte u) (each_has_byte ts) r).0 w i j c d
      (subst (λ x. Derives s x w i j c d) (sym (some_same u t at)) h)
  one_moves s (then u ts) r (suc n) t at w i j c d h =
      one_moves s ts (and_parts (has_byte u) (each_has_byte ts) r).1 n t at w i j c d h

-- What an expression derives, the one derives in which some references gave way, and its groups hold the same.
-- By induction on the tree. A copy has no groups and no references, so it derives the same from any captures.
-- The hard one is `freed_gives`, a case for each form.
use Rattle.std.proofs.Common.{◌≡◌, ℕ, zero, suc, ◌+◌, Bool, false, Some, None, List, [], ◌∷◌, ◌++◌, refl, sym, ap, subst, inl, inr}
use Rattle.std.proofs.lemmas.Option.{none-some}
use Rattle.std.specs.FinMap.{empty}
use Rattle.std.specs.List.{Contains}
use Rattle.ere_tree.specs.Captures.{Captures}
use Rattle.ere_tree.specs.Derivation.{Way, Ways, leaf, parts, members, chosen, inside, done, next, Derives, DerivesAll, DerivesEach, CanRepeat, count_of, tree_at}
use Rattle.ere_tree.specs.Tree.{Tree, Trees, plain, set, line_start, line_end, cat, alt, repeat, group, back, none, then, trees_of}
use Rattle.ere_tree.specs.Tree as tree
use Rattle.ere_tree.proofs.CapturesLemmas.{some_same}
use Rattle.ere_tree.proofs.DerivationLemmas.{is_part}
use Rattle.ere_relaxed.specs.Freed.{AreFreed, IsFreed, StandsFor}
use Rattle.ere_relaxed.specs.Moves.{Moves, AllMove}
use Rattle.ere_relaxed.specs.Relaxed.{AreBytes, AreCopies, Copies, IsAnyText, Know, StandsIn}
use Rattle.ere_relaxed.proofs.MovesLemmas.{alike_from, moved}
use Rattle.ere_relaxed.proofs.RelaxedLemmas.{AllStandIn, any_takes, know_more, know_none}

-- ANY CAPTURES

each_any_captures : (s : List ℕ) (t : Tree) → ((w : Way) (i j : ℕ) (a b c : Captures) → Derives s t w i j a b
    → Derives s t w i j c c) → (least : ℕ) (ws : Ways) (i j : ℕ) (a b c : Captures) → DerivesEach s t least ws i j a b
    → DerivesEach s t least ws i j c c
each_any_captures s t any least done i j a b c h = (h.0, h.1, refl)
each_any_captures s t any zero (next k w ws) i j a b c h =
    (c, any w i k a h.0 c h.1, h.2, each_any_captures s t any zero ws k j h.0 b c h.3)
each_any_captures s t any (suc least) (next k w ws) i j a b c h =
    (c, any w i k a h.0 c h.1, each_any_captures s t any least ws k j h.0 b c h.2)

mutual
  -- what has no groups and no references
  any_captures : (s : List ℕ) (fold : Bool) (u : Tree) (w : Way) (i j : ℕ) (a b c : Captures) → Moves fold u
      → Derives s u w i j a b → Derives s u w i j c c
  any_captures s fold tree.empty leaf i j a b c m h = (h.0, h.1, refl)
  any_captures s fold (plain bytes) leaf i j a b c m h = (h.0, h.1, refl)
  any_captures s fold (set bytes) leaf i j a b c m h = (h.0, h.1, h.2, refl)
  any_captures s fold line_start w i j a b c m h = absurd m
  any_captures s fold line_end w i j a b c m h = absurd m
  any_captures s fold (cat ts) (parts ws) i j a b c m h = all_any_captures s fold ts ws i j a b c m h
  any_captures s fold (alt ts) (chosen n w) i j a b c m h =
      (h.0, h.1, one_any_captures s fold ts n h.0 w i j a b c m h.1 h.2)
  any_captures s fold (repeat t least most) (members ws) i j a b c m h =
      (h.0, each_any_captures s t (λ v x y d e f. any_captures s fold t v x y d e f m) least ws i j a b c h.1)
  any_captures s fold (group number t) w i j a b c m h = absurd m
  any_captures s fold (back number also) w i j a b c m h = absurd m
  any_captures s fold u w i j a b c m h = absurd h

  all_any_captures : (s : List ℕ) (fold : Bool) (ts : Trees) (ws : Ways) (i j : ℕ) (a b c : Captures) → AllMove fold ts
      → DerivesAll s ts ws i j a b → DerivesAll s ts ws i j c c
  all_any_captures s fold none done i j a b c m h = (h.0, h.1, refl)
  all_any_captures s fold (then t ts) (next k w ws) i j a b c m h = (
    c,
    any_captures s fold t w i k a h.0 c m.0 h.1,
    all_any_captures s fold ts ws k j h.0 b c m.1 h.2,
  )
  all_any_captures s fold ts ws i j a b c m h = absurd h

  one_any_captures : (s : List ℕ) (fold : Bool) (ts : Trees) (n : ℕ) (t : Tree) (w : Way) (i j : ℕ) (a b c : Captures)
      → AllMove fold ts → tree_at ts n ≡ Some t → Derives s t w i j a b → Derives s t w i j c c
  one_any_captures s fold none n t w i j a b c m at h = absurd (none-some t at)
  one_any_captures s fold (then u ts) zero t w i j a b c m at h =
      let same : u ≡ t = some_same u t at in
      subst (λ x. Derives s x w i j c c) same
      (any_captures s fold u w i j a b c m.0 (subst (λ x. Derives s x w i j a b) (sym same) h))
  one_any_captures s fold (then u ts) (suc n) t w i j a b c m at h =
      one_any_captures s fold ts n t w i j a b c m.1 at h

any_text_captures : (s : List ℕ) (u : Tree) (w : Way) (i j : ℕ) (c : Captures) → IsAnyText u
    → Derives s u w i j empty empty → Derives s u w i j c c
any_text_captures s u w i j c any h =
    let whole = repeat (set any.bytes) zero None in
    subst (λ x. Derives s x w i j c c) (sym any.is)
    (any_captures s false whole w i j empty empty c (λ x y at same. subst (Contains any.bytes) same at)
    (subst (λ x. Derives s x w i j empty empty) any.is h))

-- FEWER REFERENCES

-- from captures of which all is known the second tree derives what the first does, and the first hands on such captures
abbrev pub Hands : List ℕ → Copies → Tree → Tree → Type 0
Hands s copies t u =
    (w : Way) (i j : ℕ) (c d : Captures) → Know s copies c → Derives s t w i j c d
    → (v : Way) × Derives s u v i j c d × Know s copies d

same_hands : (s : List ℕ) (copies : Copies) (t u : Tree) (w : Way) (i j : ℕ) (c d : Captures) → u ≡ t → d ≡ c
    → Know s copies c → Derives s t w i j c d → (v : Way) × Derives s u v i j c d × Know s copies d
same_hands s copies t u w i j c d same kept known h =
    (w, subst (λ x. Derives s x w i j c d) (sym same) h, subst (Know s copies) (sym kept) known)

each_hands : (s : List ℕ) (copies : Copies) (t u : Tree) → Hands s copies t u → (least : ℕ) (ws : Ways) (i j : ℕ)
    (c d : Captures) → Know s copies c → DerivesEach s t least ws i j c d
    → (vs : Ways) × (count_of vs ≡ count_of ws) × DerivesEach s u least vs i j c d × Know s copies d
each_hands s copies t u hands least done i j c d known h =
    (done, refl, h, subst (Know s copies) (sym h.2) known)
each_hands s copies t u hands zero (next k w ws) i j c d known h =
    let one = hands w i k c h.0 known h.1 in
    let rest = each_hands s copies t u hands zero ws k j h.0 d one.2 h.3 in
    (next k one.0 rest.0, ap (λ n. n + 1) rest.1, (h.0, one.1, h.2, rest.2), rest.3)
each_hands s copies t u hands (suc least) (next k w ws) i j c d known h =
    let one = hands w i k c h.0 known h.1 in
    let rest = each_hands s copies t u hands least ws k j h.0 d one.2 h.2 in
    (next k one.0 rest.0, ap (λ n. n + 1) rest.1, (h.0, one.1, rest.2), rest.3)

mutual
  pub freed_hands : (s : List ℕ) (copies : Copies) (whole t u : Tree) → AreBytes s → AreCopies whole copies
      → StandsIn t whole → IsFreed copies t u → Hands s copies t u
  freed_hands s copies whole tree.empty u all right stands r leaf i j c d known h =
      same_hands s copies tree.empty u leaf i j c d r h.2 known h
  freed_hands s copies whole (plain bytes) u all right stands r leaf i j c d known h =
      same_hands s copies (plain bytes) u leaf i j c d r h.2 known h
  freed_hands s copies whole (set bytes) u all right stands r leaf i j c d known h =
      same_hands s copies (set bytes) u leaf i j c d r h.3 known h
  freed_hands s copies whole line_start u all right stands r leaf i j c d known h =
      same_hands s copies line_start u leaf i j c d r h.2 known h
  freed_hands s copies whole line_end u all right stands r leaf i j c d known h =
      same_hands s copies line_end u leaf i j c d r h.2 known h
  freed_hands s copies whole (cat ts) u all right stands r (parts ws) i j c d known h =
      let row = all_hand s copies whole ts r.0 all right stands r.2 ws i j c d known h in
      (parts row.0, subst (λ x. Derives s x (parts row.0) i j c d) (sym r.1) row.1, row.2)
  freed_hands s copies whole (alt ts) u all right stands r (chosen n w) i j c d known h =
      let one = one_hands s copies whole ts r.0 all right stands r.2 n h.0 h.1 w i j c d known h.2 in (
        chosen n one.2,
        subst (λ x. Derives s x (chosen n one.2) i j c d) (sym r.1) (one.0, one.1, one.3),
        one.4,
      )
  freed_hands s copies whole (repeat t least most) u all right stands r (members ws) i j c d known h =
      let row = each_hands s copies t r.0
      (λ v a b e f g. freed_hands s copies whole t r.0 all right stands r.2 v a b e f g) least ws i j c d known h.1 in (
        members row.0,
        subst (λ x. Derives s x (members row.0) i j c d) (sym r.1)
            (subst (CanRepeat least most) (sym row.1) h.0, row.2),
        row.3,
      )
  freed_hands s copies whole (group number t) u all right stands r (inside w) i j c d known h =
      let one = freed_hands s copies whole t r.0 all right (λ n v g. stands n v (inr g)) r.2 w i j c h.0 known h.1 in (
        inside one.0,
        subst (λ x. Derives s x (inside one.0) i j c d) (sym r.1) (h.0, one.1, h.2),
        subst (Know s copies) (sym h.2) (know_more s copies h.0 number i j one.2
            (λ v at. right number v t at (stands number t (inl (refl, refl))) s w i j c h.0 all known h.1)),
      )
  freed_hands s copies whole (back number fold) u all right stands (inl r) leaf i j c d known h =
      same_hands s copies (back number fold) u leaf i j c d r h.4 known h
  freed_hands s copies whole (back number fold) u all right stands (inr (inl r)) leaf i j c d known h =
      let there = known number u h.0 r.at h.1 in
      let here = moved s fold u there.0 h.0.0 h.0.1 i j empty empty r.moves there.1
      (alike_from s fold h.0.0 h.0.1 i j (is_part s u there.0 h.0.0 h.0.1 empty empty there.1) h.2 h.3) in (
        here.0,
        subst (Derives s u here.0 i j c) (sym h.4) (any_captures s fold u here.0 i j empty empty c r.moves here.1),
        subst (Know s copies) (sym h.4) known,
      )
  freed_hands s copies whole (back number fold) u all right stands (inr (inr r)) leaf i j c d known h =
      let here = any_takes s u i j all r h.2 in (
        here.0,
        subst (Derives s u here.0 i j c) (sym h.4) (any_text_captures s u here.0 i j c r here.1),
        subst (Know s copies) (sym h.4) known,
      )
  freed_hands s copies whole t u all right stands r w i j c d known h = absurd h

  all_hand : (s : List ℕ) (copies : Copies) (whole : Tree) (ts us : Trees) → AreBytes s → AreCopies whole copies
      → AllStandIn ts whole → AreFreed copies ts us → (ws : Ways) (i j : ℕ) (c d : Captures) → Know s copies c
      → DerivesAll s ts ws i j c d → (vs : Ways) × DerivesAll s us vs i j c d × Know s copies d
  all_hand s copies whole none none all right stands r done i j c d known h =
      (done, h, subst (Know s copies) (sym h.2) known)
  all_hand s copies whole none none all right stands r (next k w ws) i j c d known h = absurd h
  all_hand s copies whole (then t ts) (then u us) all right stands r done i j c d known h = absurd h
  all_hand s copies whole (then t ts) (then u us) all right stands r (next k w ws) i j c d known h =
      let one = freed_hands s copies whole t u all right (λ n v g. stands n v (inl g)) r.0 w i k c h.0 known h.1 in
      let rest = all_hand s copies whole ts us all right (λ n v g. stands n v (inr g)) r.1 ws k j h.0 d one.2 h.2 in
      (next k one.0 rest.0, (h.0, one.1, rest.1), rest.2)
  all_hand s copies whole none (then u us) all right stands r ws i j c d known h = absurd r
  all_hand s copies whole (then t ts) none all right stands r ws i j c d known h = absurd r

  one_hands : (s : List ℕ) (copies : Copies) (whole : Tree) (ts us : Trees) → AreBytes s → AreCopies whole copies
      → AllStandIn ts whole → AreFreed copies ts us → (n : ℕ) (t : Tree) → tree_at ts n ≡ Some t → (w : Way) (i j : ℕ)
      (c d : Captures) → Know s copies c → Derives s t w i j c d
      → (u : Tree) × (tree_at us n ≡ Some u) × (v : Way) × Derives s u v i j c d × Know s copies d
  one_hands s copies whole none us all right stands r n t at w i j c d known h = absurd (none-some t at)
  one_hands s copies whole (then t ts) none all right stands r n v at w i j c d known h = absurd r
  one_hands s copies whole (then t ts) (then u us) all right stands r zero v at w i j c d known h =
      let one = freed_hands s copies whole t u all right (λ n x g. stands n x (inl g)) r.0 w i j c d known
      (subst (λ x. Derives s x w i j c d) (sym (some_same t v at)) h) in
      (u, refl, one.0, one.1, one.2)
  one_hands s copies whole (then t ts) (then u us) all right stands r (suc n) v at w i j c d known h =
      one_hands s copies whole ts us all right (λ m x g. stands m x (inr g)) r.1 n v at w i j c d known h

pub stands_for : (copies : Copies) (t u : Tree) → AreCopies t copies → IsFreed copies t u → StandsFor t u
stands_for copies t u right r s w i j d all h =
    let one = freed_hands s copies t t u all right (λ n v g. g) r w i j empty d (know_none s copies) h in
    (one.0, d, one.1)

-- LISTS, ONE MORE

pub freed_push : (copies : Copies) (ts us : List Tree) (t u : Tree) → AreFreed copies (trees_of ts) (trees_of us)
    → IsFreed copies t u → AreFreed copies (trees_of (ts ++ t ∷ [])) (trees_of (us ++ u ∷ []))
freed_push copies [] [] t u all one = (one, tt)
freed_push copies [] (v ∷ us) t u all one = absurd all
freed_push copies (x ∷ ts) [] t u all one = absurd all
freed_push copies (x ∷ ts) (v ∷ us) t u all one = (all.0, freed_push copies ts us t u all.1 one)

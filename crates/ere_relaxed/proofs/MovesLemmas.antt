-- An expression without anchors, groups and references spans a text wherever it stands. By induction on the tree, with
-- companions for parts, alternatives and members in a row; the places behind each are as far apart as those that they
-- stand for.
use Rattle.std.proofs.Common.{◌≡◌, ℕ, zero, suc, ◌+◌, ◌-◌, ◌<◌, ◌≤◌, Bool, true, false, Some, List, length, drop, map, refl, sym, ap, ◌∙◌, subst, arith, slice_index}
use Rattle.std.proofs.lemmas.List.{ext_get_or, get_or-map, get_or-take, get_or-drop}
use Rattle.std.proofs.lemmas.List.Elements.{Contains-get_or}
use Rattle.std.proofs.lemmas.Option.{none-some}
use Rattle.std.specs.Char.{to_ascii_lowercase}
use Rattle.std.specs.FinMap.{empty}
use Rattle.std.specs.List.{Contains}
use Rattle.ere_tree.specs.Captures.{Captures}
use Rattle.ere_tree.specs.Derivation.{Way, Ways, leaf, parts, members, chosen, done, next, Derives, DerivesAll, DerivesEach, CanRepeat, IsPart, IsSameText, part, count_of, tree_at}
use Rattle.ere_tree.specs.Tree.{Tree, Trees, plain, set, line_start, line_end, cat, alt, repeat, group, back, none, then}
use Rattle.ere_tree.specs.Tree as tree
use Rattle.ere_tree.proofs.CapturesLemmas.{some_same}
use Rattle.ere_tree.proofs.DerivationLemmas.{is_part, all_are_part, each_is_part, length-part, same_length}
use Rattle.ere_relaxed.specs.Moves.{SameByte, IsCaseless, Moves, AllMove}
use Rattle.ere_relaxed.specs.Relaxed.{Takes}

-- [p, q) holds the text of [i, j), with `fold` in either case
pub record Alike (s : List ℕ) (fold : Bool) (i j p q : ℕ) : Type 0 where
  pub long : q + i ≡ p + j
  pub ordered : p ≤ q
  pub within : q ≤ length s
  pub bytes : (x y : ℕ) → i ≤ x → x < j → y + i ≡ p + x → SameByte fold (slice_index s x) (slice_index s y)

-- a byte of a part
pub part_at : (s : List ℕ) (i j x : ℕ) → i ≤ x → x < j → slice_index (part s i j) (x - i) ≡ slice_index s x
part_at s i j x low high =
    let back : i + (x - i) ≡ x = omega arith in
    get_or-take (j - i) (drop i s) (x - i) 0 (omega arith) ∙ get_or-drop i s (x - i) 0 ∙ ap (slice_index s) back

same_bytes : (s : List ℕ) (fold : Bool) (i j p q : ℕ) → IsPart s i j → IsPart s p q
    → IsSameText fold (part s p q) (part s i j)
    → (x y : ℕ) → i ≤ x → x < j → y + i ≡ p + x → SameByte fold (slice_index s x) (slice_index s y)
same_bytes s false i j p q a b e x y low high at =
    let long = same_length false (part s p q) (part s i j) e in
    let here = length-part s i j a.0 a.1 in
    let there = length-part s p q b.0 b.1 in
    let same : y - p ≡ x - i = omega arith in
    sym (part_at s i j x low high) ∙ ap (λ t. slice_index t (x - i)) (sym e) ∙ ap (slice_index (part s p q)) (sym same)
    ∙ part_at s p q y (omega arith) (omega (arith, long, here, there))
same_bytes s true i j p q a b e x y low high at =
    let long = same_length true (part s p q) (part s i j) e in
    let here = length-part s i j a.0 a.1 in
    let there = length-part s p q b.0 b.1 in
    let same : y - p ≡ x - i = omega arith in
    let one : slice_index (map to_ascii_lowercase (part s i j)) (x - i) ≡ to_ascii_lowercase (slice_index s x) =
    get_or-map to_ascii_lowercase (part s i j) (x - i) 0 0 (omega (arith, here))
    ∙ ap to_ascii_lowercase (part_at s i j x low high) in
    let other : slice_index (map to_ascii_lowercase (part s p q)) (y - p) ≡ to_ascii_lowercase (slice_index s y) =
    get_or-map to_ascii_lowercase (part s p q) (y - p) 0 0 (omega (arith, there, long, here))
    ∙ ap to_ascii_lowercase (part_at s p q y (omega arith) (omega (arith, long, here, there))) in
    sym one ∙ ap (λ t. slice_index t (x - i)) (sym e)
    ∙ ap (slice_index (map to_ascii_lowercase (part s p q))) (sym same) ∙ other

pub alike_from : (s : List ℕ) (fold : Bool) (i j p q : ℕ) → IsPart s i j → IsPart s p q
    → IsSameText fold (part s p q) (part s i j) → Alike s fold i j p q
alike_from s fold i j p q a b e = record {
  long = omega (
    arith,
    same_length fold (part s p q) (part s i j) e,
    length-part s i j a.0 a.1,
    length-part s p q b.0 b.1,
    a.0,
    b.0,
  );
  ordered = b.0;
  within = b.1;
  bytes = same_bytes s fold i j p q a b e;
}

-- the first part of it, and the rest
pub alike_front : (s : List ℕ) (fold : Bool) (i k j p q : ℕ) → i ≤ k → k ≤ j → Alike s fold i j p q
    → Alike s fold i k p (p + (k - i))
alike_front s fold i k j p q low high a = record {
  long = omega arith;
  ordered = omega arith;
  within = omega (arith, a.long, a.ordered, a.within);
  bytes = λ x y from to at. a.bytes x y from (omega arith) at;
}

pub alike_rest : (s : List ℕ) (fold : Bool) (i k j p q : ℕ) → i ≤ k → k ≤ j → Alike s fold i j p q
    → Alike s fold k j (p + (k - i)) q
alike_rest s fold i k j p q low high a = record {
  long = omega (arith, a.long);
  ordered = omega (arith, a.long, a.ordered);
  within = a.within;
  bytes = λ x y from to at. a.bytes x y (omega arith) to (omega (arith, at));
}

-- a text of bytes with one case stands at both places
plain_moves : (s : List ℕ) (fold : Bool) (bytes : List ℕ) (i j p q : ℕ) → IsCaseless fold bytes → IsPart s i j
    → part s i j ≡ bytes → Alike s fold i j p q → part s p q ≡ bytes
plain_moves s fold bytes i j p q one lies is a =
    let here = length-part s i j lies.0 lies.1 in
    let there = length-part s p q a.ordered a.within in
    ext_get_or 0 (part s p q) bytes (omega (arith, here, there, a.long, lies.0, a.ordered, ap length is))
    (λ n low.
    let x = i + n in
    let y = p + n in
    let first : x - i ≡ n = omega arith in
    let second : y - p ≡ n = omega arith in
    let old : slice_index bytes n ≡ slice_index s x =
    ap (λ t. slice_index t n) (sym is) ∙ ap (slice_index (part s i j)) (sym first)
    ∙ part_at s i j x (omega arith) (omega (arith, here, there, low, a.long, a.ordered, lies.0)) in
    let new : slice_index (part s p q) n ≡ slice_index s y =
    ap (slice_index (part s p q)) (sym second) ∙ part_at s p q y (omega arith) (omega (arith, there, low)) in
    let inner : Contains bytes (slice_index s x) =
    subst (Contains bytes) old (Contains-get_or bytes n 0
    (omega (arith, here, there, low, a.long, a.ordered, lies.0, ap length is))) in
    new ∙ sym (one (slice_index s x) (slice_index s y) inner
    (a.bytes x y (omega arith) (omega (arith, here, there, low, a.long, a.ordered, lies.0)) (omega arith)))
    ∙ sym old)

-- the tree spans what is alike
abbrev pub IsMoved : List ℕ → Bool → Tree → Type 0
IsMoved s fold t =
    (w : Way) (i j p q : ℕ) (c d : Captures) → Derives s t w i j c d → Alike s fold i j p q → Takes s t p q

each_moved : (s : List ℕ) (fold : Bool) (t : Tree) (least : ℕ) (ws : Ways) (i j p q : ℕ) (c d : Captures)
    → IsMoved s fold t → DerivesEach s t least ws i j c d → Alike s fold i j p q
    → (vs : Ways) × (count_of vs ≡ count_of ws) × DerivesEach s t least vs p q empty empty
each_moved s fold t least done i j p q c d m h a =
    (done, refl, (omega (arith, a.long, h.0), omega (arith, a.ordered, a.within), refl))
each_moved s fold t zero (next k w ws) i j p q c d m h a =
    let low = (is_part s t w i k c h.0 h.1).0 in
    let high = (each_is_part s t zero ws k j h.0 d h.3).0 in
    let one = m w i k p (p + (k - i)) c h.0 h.1 (alike_front s fold i k j p q low high a) in
    let rest = each_moved s fold t zero ws k j (p + (k - i)) q h.0 d m h.3 (alike_rest s fold i k j p q low high a) in
    (next (p + (k - i)) one.0 rest.0, ap (λ n. n + 1) rest.1, (empty, one.1, omega (arith, h.2), rest.2))
each_moved s fold t (suc least) (next k w ws) i j p q c d m h a =
    let low = (is_part s t w i k c h.0 h.1).0 in
    let high = (each_is_part s t least ws k j h.0 d h.2).0 in
    let one = m w i k p (p + (k - i)) c h.0 h.1 (alike_front s fold i k j p q low high a) in
    let rest = each_moved s fold t least ws k j (p + (k - i)) q h.0 d m h.2 (alike_rest s fold i k j p q low high a) in
    (next (p + (k - i)) one.0 rest.0, ap (λ n. n + 1) rest.1, (empty, one.1, rest.2))

mutual
  pub moved : (s : List ℕ) (fold : Bool) (u : Tree) (w : Way) (i j p q : ℕ) (c d : Captures) → Moves fold u
      → Derives s u w i j c d → Alike s fold i j p q → Takes s u p q
  moved s fold tree.empty leaf i j p q c d m h a =
      (leaf, (omega (arith, a.long, h.0), omega (arith, a.ordered, a.within), refl))
  moved s fold (plain bytes) leaf i j p q c d m h a =
      (leaf, ((a.ordered, a.within), plain_moves s fold bytes i j p q m h.0 h.1 a, refl))
  moved s fold (set bytes) leaf i j p q c d m h a = (
    leaf,
    (
      omega (arith, a.long, h.0),
      omega (arith, a.long, h.0, a.within),
      m (slice_index s i) (slice_index s p) h.2 (a.bytes i p (omega arith) (omega (arith, h.0)) (omega arith)),
      refl,
    ),
  )
  moved s fold line_start w i j p q c d m h a = absurd m
  moved s fold line_end w i j p q c d m h a = absurd m
  moved s fold (cat ts) (parts ws) i j p q c d m h a =
      let all = all_moved s fold ts ws i j p q c d m h a in
      (parts all.0, all.1)
  moved s fold (alt ts) (chosen n w) i j p q c d m h a =
      let one = one_moved s fold ts n h.0 w i j p q c d m h.1 h.2 a in
      (chosen n one.0, (h.0, h.1, one.1))
  moved s fold (repeat t least most) (members ws) i j p q c d m h a =
      let each = each_moved s fold t least ws i j p q c d (λ v a b e f g h. moved s fold t v a b e f g h m) h.1 a in
      (members each.0, (subst (CanRepeat least most) (sym each.1) h.0, each.2))
  moved s fold (group number t) w i j p q c d m h a = absurd m
  moved s fold (back number also) w i j p q c d m h a = absurd m
  moved s fold u w i j p q c d m h a = absurd h

  all_moved : (s : List ℕ) (fold : Bool) (ts : Trees) (ws : Ways) (i j p q : ℕ) (c d : Captures) → AllMove fold ts
      → DerivesAll s ts ws i j c d → Alike s fold i j p q → (vs : Ways) × DerivesAll s ts vs p q empty empty
  all_moved s fold none done i j p q c d m h a =
      (done, (omega (arith, a.long, h.0), omega (arith, a.ordered, a.within), refl))
  all_moved s fold (then t ts) (next k w ws) i j p q c d m h a =
      let low = (is_part s t w i k c h.0 h.1).0 in
      let high = (all_are_part s ts ws k j h.0 d h.2).0 in
      let one = moved s fold t w i k p (p + (k - i)) c h.0 m.0 h.1 (alike_front s fold i k j p q low high a) in
      let rest = all_moved s fold ts ws k j (p + (k - i)) q h.0 d m.1 h.2 (alike_rest s fold i k j p q low high a) in
      (next (p + (k - i)) one.0 rest.0, (empty, one.1, rest.1))
  all_moved s fold ts ws i j p q c d m h a = absurd h

  one_moved : (s : List ℕ) (fold : Bool) (ts : Trees) (n : ℕ) (t : Tree) (w : Way) (i j p q : ℕ) (c d : Captures)
      → AllMove fold ts → tree_at ts n ≡ Some t → Derives s t w i j c d → Alike s fold i j p q → Takes s t p q
  one_moved s fold none n t w i j p q c d m at h a = absurd (none-some t at)
  one_moved s fold (then u ts) zero t w i j p q c d m at h a =
      let same : u ≡ t = some_same u t at in
      let one = moved s fold u w i j p q c d m.0 (subst (λ x. Derives s x w i j c d) (sym same) h) a in
      (one.0, subst (λ x. Derives s x one.0 p q empty empty) same one.1)
  one_moved s fold (then u ts) (suc n) t w i j p q c d m at h a = one_moved s fold ts n t w i j p q c d m.1 at h a

-- What a tree without references spans, in terms of what is inside: parts one behind the other, one of the
-- alternatives, members in a chain. Captures are handed on in derivations and don't matter here, since a tree without
-- references derives from any. The hard one is `each_from`: of a chain of members, those that are empty behind the
-- minimum are left out.
use Rattle.std.proofs.Common.{◌≡◌, ◌↔◌, ℕ, zero, suc, ◌+◌, ◌-◌, ◌≤◌, false, Option, Some, None, List, [], ◌∷◌, length, refl, sym, subst, inl, inr, arith}
use Rattle.std.specs.FinMap.{empty, insert}
use Rattle.std.proofs.lemmas.Bool.{cases_lt}
use Rattle.std.proofs.lemmas.Option.{none-some}
use Rattle.ere_tree.specs.Captures.{Captures}
use Rattle.ere_tree.specs.Derivation.{Way, Ways, parts, members, chosen, inside, done, next, Derives, DerivesAll, DerivesEach, CanRepeat, IsPart, Spans, count_of, tree_at}
use Rattle.ere_tree.specs.Shape.{has_refs, any_has_refs}
use Rattle.ere_tree.specs.Tree.{Tree, cat, alt, repeat, group, trees_of}
use Rattle.ere_tree.proofs.CapturesLemmas.{some_same}
use Rattle.ere_tree.proofs.DerivationLemmas.{is_part, each_count}
use Rattle.ere_tree.proofs.FreeLemmas.{free, no_left, no_right}
use Rattle.ere_tree.proofs.PartsLemmas.{cat_out, alt_out, group_out, repeat_out}
use Rattle.ere_places.specs.Places.{SpanAll, SpanOne}
use Rattle.ere_places.specs.Steps.{Chain}

pub spans_part : (s : List ℕ) (t : Tree) (i j : ℕ) → Spans s t i j → IsPart s i j
spans_part s t i j (w, c, d, h) = is_part s t w i j c d h

-- from any captures
pub spans_from : (s : List ℕ) (t : Tree) (i j : ℕ) → has_refs t ≡ false → Spans s t i j → (b : Captures)
    → (w : Way) × (e : Captures) × Derives s t w i j b e
spans_from s t i j r (w, c, d, h) b = let f = free s t r w i j c d b h in (w, f.0, f.1)

-- PARTS

pub all_part : (s : List ℕ) (ts : List Tree) (i j : ℕ) → SpanAll s ts i j → i ≤ j
all_part s [] i j h = omega (arith, h.0)
all_part s (t ∷ ts) i j (k, first, rest) = omega (arith, (spans_part s t i k first).0, all_part s ts k j rest)

all_out_of : (s : List ℕ) (ts : List Tree) (ws : Ways) (i j : ℕ) (c d : Captures)
    → DerivesAll s (trees_of ts) ws i j c d → SpanAll s ts i j
all_out_of s [] done i j c d h = (h.0, h.1)
all_out_of s [] (next k w ws) i j c d h = absurd h
all_out_of s (t ∷ ts) done i j c d h = absurd h
all_out_of s (t ∷ ts) (next k w ws) i j c d h = (k, (w, c, h.0, h.1), all_out_of s ts ws k j h.0 d h.2)

all_from : (s : List ℕ) (ts : List Tree) (i j : ℕ) → any_has_refs (trees_of ts) ≡ false → SpanAll s ts i j
    → (b : Captures) → (ws : Ways) × (e : Captures) × DerivesAll s (trees_of ts) ws i j b e
all_from s [] i j r h b = (done, b, (h.0, h.1, refl))
all_from s (t ∷ ts) i j r (k, first, rest) b =
    let one = spans_from s t i k (no_left _ _ r) first b in
    let others = all_from s ts k j (no_right _ _ r) rest one.1 in
    (next k one.0 others.0, others.1, (one.1, one.2, others.2))

pub spans_cat : (s : List ℕ) (ts : List Tree) (i j : ℕ) → any_has_refs (trees_of ts) ≡ false
    → Spans s (cat (trees_of ts)) i j ↔ SpanAll s ts i j
spans_cat s ts i j r = (out, λ h. back h)
  where
    out : Spans s (cat (trees_of ts)) i j → SpanAll s ts i j
    out (w, c, d, h) = let all = cat_out s (trees_of ts) w i j c d h in all_out_of s ts all.0 i j c d all.2

    back : SpanAll s ts i j → Spans s (cat (trees_of ts)) i j
    back h = let all = all_from s ts i j r h empty in (parts all.0, empty, all.1, all.2)

-- ALTERNATIVES

one_out : (s : List ℕ) (ts : List Tree) (n : ℕ) (t : Tree) (i j : ℕ) → tree_at (trees_of ts) n ≡ Some t → Spans s t i j
    → SpanOne s ts i j
one_out s [] n t i j at h = absurd (none-some t at)
one_out s (u ∷ ts) zero t i j at h = inl (subst (λ (x : Tree). Spans s x i j) (sym (some_same u t at)) h)
one_out s (u ∷ ts) (suc n) t i j at h = inr (one_out s ts n t i j at h)

one_from : (s : List ℕ) (ts : List Tree) (i j : ℕ) → SpanOne s ts i j
    → (n : ℕ) × (t : Tree) × (tree_at (trees_of ts) n ≡ Some t) × Spans s t i j
one_from s [] i j h = absurd h
one_from s (t ∷ ts) i j (inl h) = (zero, t, refl, h)
one_from s (t ∷ ts) i j (inr h) = let r = one_from s ts i j h in (suc r.0, r.1, r.2, r.3)

pub spans_alt : (s : List ℕ) (ts : List Tree) (i j : ℕ) → Spans s (alt (trees_of ts)) i j ↔ SpanOne s ts i j
spans_alt s ts i j = (out, λ h. back h)
  where
    out : Spans s (alt (trees_of ts)) i j → SpanOne s ts i j
    out (w, c, d, h) =
        let one = alt_out s (trees_of ts) w i j c d h in one_out s ts one.0 one.2 i j one.3 (one.1, c, d, one.4)

    back : SpanOne s ts i j → Spans s (alt (trees_of ts)) i j
    back h =
        let one = one_from s ts i j h in
        (chosen one.0 one.3.0, one.3.1, one.3.2, (one.1, one.2, one.3.3))

pub spans_group : (s : List ℕ) (n : ℕ) (t : Tree) (i j : ℕ) → Spans s (group n t) i j ↔ Spans s t i j
spans_group s n t i j = (out, λ h. back h)
  where
    out : Spans s (group n t) i j → Spans s t i j
    out (w, c, d, h) = let one = group_out s n t w i j c d h in (one.0, c, one.1, one.2)

    back : Spans s t i j → Spans s (group n t) i j
    back (w, c, d, h) = (inside w, c, insert d n (i, j), (d, h, refl))

-- MEMBERS

each_chain : (s : List ℕ) (t : Tree) (least : ℕ) (ws : Ways) (i j : ℕ) (c d : Captures)
    → DerivesEach s t least ws i j c d → (n : ℕ) → n ≡ count_of ws → Chain (Spans s t) n i j
each_chain s t least done i j c d h zero e = sym h.0
each_chain s t least done i j c d h (suc n) e = absurd (omega arith)
each_chain s t least (next k w ws) i j c d h zero e = absurd (omega arith)
each_chain s t zero (next k w ws) i j c d h (suc n) e =
    (k, (w, c, h.0, h.1), each_chain s t zero ws k j h.0 d h.3 n (omega arith))
each_chain s t (suc least) (next k w ws) i j c d h (suc n) e =
    (k, (w, c, h.0, h.1), each_chain s t least ws k j h.0 d h.2 n (omega arith))

-- members of a chain, of which those behind the minimum that are empty are left out
pub each_from : (s : List ℕ) (t : Tree) → has_refs t ≡ false → (n least i j : ℕ) (b : Captures) → least ≤ n
    → i ≤ length s → Chain (Spans s t) n i j
    → (ws : Ways) × (e : Captures) × (least ≤ count_of ws) × (count_of ws ≤ n) × DerivesEach s t least ws i j b e
each_from s t r zero zero i j b enough within h =
    (done, b, omega arith, omega arith, (sym h, within, refl))
each_from s t r zero (suc least) i j b enough within h = absurd (omega arith)
each_from s t r (suc n) (suc least) i j b enough within (k, first, rest) =
    let one = spans_from s t i k r first b in
    let others = each_from s t r n least k j one.1 (omega arith) (spans_part s t i k first).1 rest in (
      next k one.0 others.0,
      others.1,
      omega (arith, others.2),
      omega (arith, others.3),
      (one.1, one.2, others.4),
    )
each_from s t r (suc n) zero i j b enough within (k, first, rest) = elim (cases_lt i k) [
  | inl on ↦
      let one = spans_from s t i k r first b in
      let others = each_from s t r n zero k j one.1 (omega arith) (spans_part s t i k first).1 rest in (
        next k one.0 others.0,
        others.1,
        omega arith,
        omega (arith, others.3),
        (one.1, one.2, on, others.4),
      )
  | inr stays ↦
      let lies = spans_part s t i k first in
      let same : k ≡ i = omega (arith, lies.0) in
      let others = each_from s t r n zero i j b (omega arith) within
      (subst (λ m. Chain (Spans s t) n m j) same rest) in
      (others.0, others.1, others.2, omega (arith, others.3), others.4)
]

pub spans_repeat : (s : List ℕ) (t : Tree) (least : ℕ) (most : Option ℕ) (i j : ℕ)
    → Spans s (repeat t least most) i j
    → (n : ℕ) × CanRepeat least most n × (n ≤ least + (j - i)) × Chain (Spans s t) n i j
spans_repeat s t least most i j (w, c, d, h) =
    let all = repeat_out s t least most w i j c d h in (
      count_of all.0,
      all.1,
      each_count s t least all.0 i j c d all.2,
      each_chain s t least all.0 i j c d all.2 (count_of all.0) refl,
    )

fewer : (least : ℕ) (most : Option ℕ) (m n : ℕ) → least ≤ m → m ≤ n → CanRepeat least most n → CanRepeat least most m
fewer least None m n low high h = (low, tt)
fewer least (Some most) m n low high h = (low, omega (arith, h.1))

pub repeat_spans : (s : List ℕ) (t : Tree) → has_refs t ≡ false → (least : ℕ) (most : Option ℕ) (i j n : ℕ)
    → i ≤ length s → CanRepeat least most n → Chain (Spans s t) n i j → Spans s (repeat t least most) i j
repeat_spans s t r least most i j n within fits h =
    let all = each_from s t r n least i j empty fits.0 within h in
    (members all.0, empty, all.1, (fewer least most (count_of all.0) n all.2 all.3 fits, all.4))

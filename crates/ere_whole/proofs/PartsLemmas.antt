-- Parts in two halves, and alternatives up to one of them.
-- A list of parts is cut in two; a list of alternatives grows by its last.
-- The hard one is `all_append`: parts lead through the place between the halves.
use Rattle.std.proofs.Common.{◌≡◌, ◌↔◌, ℕ, ◌+◌, ◌<◌, ◌≤◌, Bool, true, false, ◌||◌, List, [], ◌∷◌, ◌++◌, length, map, take, drop, get_or, refl, sym, ap, ◌∙◌, subst, inl, inr, arith, true≢false}
use Rattle.std.specs.Prelude.{◌⊎◌}
use Rattle.std.proofs.lemmas.List.{take_more, take-append-drop, map-append}
use Rattle.ere_tree.specs.Tree.{Tree, trees_of}
use Rattle.ere_tree.specs.Shape.{has_refs, any_has_refs}
use Rattle.ere_tree.specs.Derivation.{Spans}
use Rattle.ere_tree.specs.View.{view}
use Rattle.ere_tree.specs.declared.ere.Ere.{Ere}
use Rattle.ere_tree.proofs.FreeLemmas.{no_left, no_right}
use Rattle.ere_places.specs.Places.{SpanAll, SpanOne}
use Rattle.ere_places.proofs.SpanLemmas.{spans_part, all_part}

pub all_within : (s : List ℕ) (ts : List Tree) (i j : ℕ) → SpanAll s ts i j → j ≤ length s
all_within s [] i j h = omega (arith, h.0, h.1)
all_within s (t ∷ ts) i j (k, first, rest) = all_within s ts k j rest

pub all_append : (s : List ℕ) (ts us : List Tree) (i j : ℕ)
    → ((k : ℕ) × SpanAll s ts i k × SpanAll s us k j) ↔ SpanAll s (ts ++ us) i j
all_append s [] us i j = (
  λ (k, here, rest). subst (λ n. SpanAll s us n j) here.0 rest,
  λ h. (i, (refl, let a = all_part s us i j h in omega (arith, a, all_within s us i j h)), h),
)
all_append s (t ∷ ts) us i j = (
  λ (k, (m, first, rest), others). (m, first, (all_append s ts us m j).0 (k, rest, others)),
  λ (m, first, rest). let r = (all_append s ts us m j).1 rest in (r.0, (m, first, r.1), r.2),
)

pub refs_append : (ts us : List Tree) → any_has_refs (trees_of (ts ++ us)) ≡ false
    → (any_has_refs (trees_of ts) ≡ false) × (any_has_refs (trees_of us) ≡ false)
refs_append [] us h = (refl, h)
refs_append (t ∷ ts) us h =
    let rest = refs_append ts us (no_right _ _ h) in
    (both (has_refs t) (any_has_refs (trees_of ts)) (no_left _ _ h) rest.0, rest.1)
  where
    both : (v w : Bool) → v ≡ false → w ≡ false → (v || w) ≡ false
    both true w is too = absurd (true≢false is)
    both false w is too = too

-- the trees of two halves are those of the whole
pub halves : (items first rest : List Ere) (n : ℕ) → first ≡ take n items → rest ≡ drop n items
    → map view first ++ map view rest ≡ map view items
halves items first rest n front back =
    sym (map-append view first rest)
    ∙ ap (map view) (ap (λ xs. xs ++ rest) front ∙ ap (λ ys. take n items ++ ys) back ∙ take-append-drop n items)

pub one_append : (s : List ℕ) (ts : List Tree) (t : Tree) (i j : ℕ)
    → (SpanOne s ts i j ⊎ Spans s t i j) ↔ SpanOne s (ts ++ t ∷ []) i j
one_append s [] t i j = (
  λ h. elim h [ inl none ↦ absurd none | inr is ↦ inl is ],
  λ h. elim h [ inl is ↦ inr is | inr none ↦ absurd none ],
)
one_append s (u ∷ ts) t i j =
    let rest = one_append s ts t i j in (
      λ h. elim h [
        | inl old ↦ elim old [ inl is ↦ inl is | inr is ↦ inr (rest.0 (inl is)) ]
        | inr is ↦ inr (rest.0 (inr is))
      ],
      λ h. elim h [
        | inl is ↦ inl (inl is)
        | inr later ↦ elim (rest.1 later) [ inl is ↦ inl (inr is) | inr is ↦ inr is ]
      ],
    )

-- the trees up to one of a list, and that one
pub views_more : (items : List Ere) (i : ℕ) (one : Ere) → i < length items → one ≡ get_or items i one
    → map view (take (i + 1) items) ≡ map view (take i items) ++ view one ∷ []
views_more items i one low is =
    ap (map view) (take_more items i one low ∙ ap (λ e. take i items ++ e ∷ []) (sym is))
    ∙ map-append view (take i items) (one ∷ [])

-- a list of one tree
pub all_alone : (s : List ℕ) (items : List Ere) (one : Ere) → length items ≡ 1 → one ≡ get_or items 0 one
    → (i j : ℕ) → Spans s (view one) i j ↔ SpanAll s (map view items) i j
all_alone s [] one long is i j = absurd (omega (arith, long))
all_alone s (e ∷ []) one long is i j = (
  λ h. (j, subst (λ x. Spans s (view x) i j) is h, (refl, (spans_part s (view one) i j h).1)),
  λ (k, first, end). subst (λ x. Spans s (view x) i j) (sym is) (subst (Spans s (view e) i) (sym end.0) first),
)
all_alone s (e ∷ f ∷ es) one long is i j = absurd (omega (arith, long))

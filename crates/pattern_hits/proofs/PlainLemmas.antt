-- The hit of an expression that is plain text is the first place at which that text stands. Shown by what a derivation of
-- texts one behind the other spans (`spans_text`), by the derivation at a place where they stand (`stands`), and since two
-- derivations from one start end alike, so that none is preferred (`alike`). The hard one is `stands`.
use Rattle.std.proofs.Common.{◌≡◌, ℕ, ◌+◌, ◌-◌, ◌≤◌, ◌<◌, List, [], ◌∷◌, ◌++◌, length, map, take, drop, refl, sym, ap, ◌∙◌, subst, true≢false, arith, get_or, drop-cons, add-one, append_assoc, append-nil, max, true}
use Rattle.std.specs.FinMap.{empty}
use Rattle.std.specs.Ordering.{nat_cmp, ordering_then, is_eq}
use Rattle.std.specs.declared.cmp.Ordering.{Ordering}
use Rattle.std.specs.declared.cmp.Ordering.TheVariants.{Less, Equal, Greater}
use Rattle.std.specs.Cmp.{eq_by_cmp_equiv}
use Rattle.std.proofs.lemmas.Cmp.{nat_cmp_total}
use Rattle.std.proofs.Math.Seq.{take-add, take-append_seam, drop-append_seam}
use Rattle.std.proofs.lemmas.List.{drop_all, drop-drop, length-append}
use Rattle.ere_tree.specs.Captures.{Captures, caps_of}
use Rattle.ere_tree.specs.Derivation.{Way, Ways, leaf, parts, done, next, IsPart, part, Derives, DerivesAll}
use Rattle.ere_tree.specs.Hit.{IsHit, HasNoHit, TellsHit}
use Rattle.ere_tree.specs.Preference.{IsPreferred, within, in_order}
use Rattle.ere_tree.specs.Shape.{greatest_group, greatest_group_of}
use Rattle.ere_tree.specs.Tree.{Tree, Trees, plain, cat, none, then, trees_of}
use Rattle.ere_tree.specs.View.{view}
use Rattle.ere_tree.specs.declared.ere.Ere.{Ere}
use Rattle.ere_tree.proofs.DerivationLemmas.{length-part}
use Rattle.tt_base.specs.Occurrence.{StandsAt, StandsNowhere}
use Rattle.pattern_hits.specs.Plain.{IsText, joined}

-- what a derivation of a text says
plain_out : (s b : List ℕ) (w : Way) (i k : ℕ) (c e : Captures) → Derives s (plain b) w i k c e
    → IsPart s i k × (part s i k ≡ b) × (e ≡ c) × (w ≡ leaf)
plain_out s b leaf i k c e h = (h.0, h.1, h.2, refl)
plain_out s b w i k c e h = absurd h

-- a part is its front and the rest
part_joined : (s : List ℕ) (i k j : ℕ) → i ≤ k → k ≤ j → part s i j ≡ part s i k ++ part s k j
part_joined s i k j low high =
    let whole : j - i ≡ (k - i) + (j - k) = omega arith in
    let behind : i + (k - i) ≡ k = omega arith in
    ap (λ n. take n (drop i s)) whole ∙ take-add (k - i) (j - k) (drop i s)
    ∙ ap (λ xs. part s i k ++ take (j - k) xs) (drop-drop (k - i) i s ∙ ap (λ n. drop n s) behind)

no_bytes : (s : List ℕ) (i j : ℕ) → j ≡ i → part s i j ≡ []
no_bytes s i j same = let none : j - i ≡ 0 = omega arith in ap (λ n. take n (drop i s)) none

-- texts one behind the other span their bytes, and no capture changes
spans_text : (s : List ℕ) (bs : List (List ℕ)) (ws : Ways) (i j : ℕ) (c d : Captures)
    → DerivesAll s (trees_of (map plain bs)) ws i j c d
    → IsPart s i j × (part s i j ≡ joined bs) × (d ≡ c)
spans_text s [] done i j c d h = ((omega arith, omega arith), no_bytes s i j h.0, h.2)
spans_text s [] (next k w ws) i j c d h = absurd h
spans_text s (b ∷ bs) done i j c d h = absurd h
spans_text s (b ∷ bs) (next k w ws) i j c d h =
    let one = plain_out s b w i k c h.0 h.1 in
    let rest = spans_text s bs ws k j h.0 d h.2 in (
      (omega (arith, one.0.0, rest.0.0), rest.0.1),
      part_joined s i k j one.0.0 rest.0.0 ∙ (λ n. one.1 n ++ rest.1 n),
      rest.2 ∙ one.2,
    )

-- where the bytes stand, the texts span them
stands : (s : List ℕ) (bs : List (List ℕ)) (i j : ℕ) (c : Captures) → IsPart s i j → part s i j ≡ joined bs
    → (ws : Ways) × DerivesAll s (trees_of (map plain bs)) ws i j c c
stands s [] i j c is same =
    let none : j - i ≡ 0 = sym (length-part s i j is.0 is.1) ∙ ap length same in
    (done, (omega arith, omega (arith, is.0, is.1), refl))
stands s (b ∷ bs) i j c is same =
    let k : ℕ = i + length b in
    let long : j - i ≡ length b + length (joined bs) =
    sym (length-part s i j is.0 is.1) ∙ ap length same ∙ length-append b (joined bs) in
    let inside : k ≤ j = omega (arith, is.0) in
    let front : part s i k ++ part s k j ≡ b ++ joined bs =
    sym (part_joined s i k j (omega arith) inside) ∙ same in
    let count : length (part s i k) ≡ length b =
    length-part s i k (omega arith) (omega (arith, is.1)) ∙ omega arith in
    let first : part s i k ≡ b =
    sym (take-append_seam (part s i k) (part s k j)) ∙ (λ n. take (count n) (front n))
    ∙ take-append_seam b (joined bs) in
    let second : part s k j ≡ joined bs =
    sym (drop-append_seam (part s i k) (part s k j)) ∙ (λ n. drop (count n) (front n))
    ∙ drop-append_seam b (joined bs) in
    let rest = stands s bs k j c (inside, is.1) second in
    (next k leaf rest.0, (c, ((omega arith, omega (arith, is.1)), first, refl), rest.1))

-- two derivations from one start end alike, and none is preferred
is_equal : (r : Ordering) → is_eq r ≡ true → r ≡ Equal
is_equal Less e = absurd (true≢false (sym e))
is_equal Equal e = refl
is_equal Greater e = absurd (true≢false (sym e))

same_count : (n : ℕ) → nat_cmp n n ≡ Equal
same_count n = is_equal (nat_cmp n n) ((eq_by_cmp_equiv nat_cmp_total).refl n)

alike : (s : List ℕ) (bs : List (List ℕ)) (ws vs : Ways) (i j k : ℕ) (c d b e : Captures)
    → DerivesAll s (trees_of (map plain bs)) ws i j c d → DerivesAll s (trees_of (map plain bs)) vs i k b e
    → (j ≡ k) × (in_order vs ws ≡ Equal)
alike s [] done done i j k c d b e h g = (omega (arith, h.0, g.0), refl)
alike s [] (next m w ws) vs i j k c d b e h g = absurd h
alike s [] done (next m w ws) i j k c d b e h g = absurd g
alike s (a ∷ bs) done vs i j k c d b e h g = absurd h
alike s (a ∷ bs) (next m w ws) done i j k c d b e h g = absurd g
alike s (a ∷ bs) (next m w ws) (next n v vs) i j k c d b e h g =
    let one = plain_out s a w i m c h.0 h.1 in
    let two = plain_out s a v i n b g.0 g.1 in
    let first : m - i ≡ n - i =
    sym (length-part s i m one.0.0 one.0.1) ∙ ap length (one.1 ∙ sym two.1) ∙ length-part s i n two.0.0 two.0.1 in
    let ends : m ≡ n = omega (arith, one.0.0, two.0.0) in
    let moved = subst (λ x. DerivesAll s (trees_of (map plain bs)) ws x j h.0 d) ends h.2 in
    let rest = alike s bs ws vs n j k h.0 d g.0 e moved g.2 in (
      rest.0,
      (λ x. ordering_then (ordering_then (nat_cmp (ends x) n) (within (two.3 x) (one.3 x))) (in_order vs ws))
          ∙ ap (λ o. ordering_then (ordering_then o Equal) (in_order vs ws)) (same_count n) ∙ rest.1,
    )

-- the expression
cat_out : (s : List ℕ) (ts : Trees) (w : Way) (i j : ℕ) (c d : Captures) → Derives s (cat ts) w i j c d
    → (ws : Ways) × (w ≡ parts ws) × DerivesAll s ts ws i j c d
cat_out s ts (parts ws) i j c d h = (ws, refl, h)
cat_out s ts w i j c d h = absurd h

-- bytes that a part is stand there
part_stands : (s needle : List ℕ) (i j : ℕ) → IsPart s i j → part s i j ≡ needle → StandsAt s needle (length s) i
part_stands s needle i j is same =
    let long : length needle ≡ j - i = sym (ap length same) ∙ length-part s i j is.0 is.1 in
    (omega (arith, is.0, is.1), ap (λ n. take n (drop i s)) long ∙ same)

spanned : (s : List ℕ) (t : Tree) (needle : List ℕ) → IsText t needle → (w : Way) (i j : ℕ) (c d : Captures)
    → Derives s t w i j c d → StandsAt s needle (length s) i
spanned s t needle is w i j c d h =
    let all = cat_out s (trees_of (map plain is.texts)) w i j c d (subst (λ u. Derives s u w i j c d) is.is h) in
    let spans = spans_text s is.texts all.0 i j c d all.2 in
    part_stands s needle i j spans.0 (spans.1 ∙ is.joins)

pub no_text : (s : List ℕ) (t : Tree) (needle : List ℕ) → IsText t needle
    → StandsNowhere s needle (length s) 0 (length s + 1) → HasNoHit s t
no_text s t needle is nowhere h k v d shows =
    let there = spanned s t needle is v h k empty d shows in
    nowhere h (omega arith) (omega (arith, there.0)) there

less_not_equal : Less ≡ Equal → ⊥
less_not_equal e = true≢false (sym (ap is_eq e))

not_preferred : (s : List ℕ) (bs : List (List ℕ)) (ws vs : Ways) (i j k : ℕ) (c d b e : Captures)
    → DerivesAll s (trees_of (map plain bs)) ws i j c d → DerivesAll s (trees_of (map plain bs)) vs i k b e
    → IsPreferred (parts vs) k (parts ws) j → ⊥
not_preferred s bs ws vs i j k c d b e h g less =
    let both = alike s bs ws vs i j k c d b e h g in
    less_not_equal (sym less ∙ (λ n. ordering_then (nat_cmp (both.0 n) k) (in_order vs ws))
    ∙ ap (λ o. ordering_then o (in_order vs ws)) (same_count k) ∙ both.1)

text_hit : (s : List ℕ) (t : Tree) (needle : List ℕ) → IsText t needle → (i : ℕ) → StandsAt s needle (length s) i
    → StandsNowhere s needle (length s) 0 i → IsHit s t i (i + length needle) empty
text_hit s t needle is i there before =
    let bs = is.texts in
    let same : i + length needle - i ≡ length needle = omega arith in
    let found = stands s bs i (i + length needle) empty (omega arith, there.0)
    (ap (λ n. take n (drop i s)) same ∙ there.1 ∙ sym is.joins) in
    record {
      way = parts found.0;
      shows = subst (λ u. Derives s u (parts found.0) i (i + length needle) empty empty) (sym is.is) found.1;
      leftmost = λ h k v d low shows. before h (omega arith) low (spanned s t needle is v h k empty d shows);
      preferred = λ k v d shows less.
          let all = cat_out s (trees_of (map plain bs)) v i k empty d
          (subst (λ u. Derives s u v i k empty d) is.is shows) in
          not_preferred s bs found.0 all.0 i (i + length needle) k empty empty empty d found.1 all.2
          (subst (λ w. IsPreferred w k (parts found.0) (i + length needle)) all.1 less);
    }

no_groups : (bs : List (List ℕ)) → greatest_group_of (trees_of (map plain bs)) ≡ 0
no_groups [] = refl
no_groups (b ∷ bs) = ap (max 0) (no_groups bs)

pub tells_text : (text : List ℕ) (t : Tree) (needle : List ℕ) (from i : ℕ) → IsText t needle
    → StandsAt (drop from text) needle (length (drop from text)) i
    → StandsNowhere (drop from text) needle (length (drop from text)) 0 i
    → TellsHit text t from (record { from = from + i; to = from + i + length needle; groups = [] })
tells_text text t needle from i is there before =
    let s = drop from text in
    let low : i ≡ from + i - from = omega arith in
    let high : i + length needle ≡ from + i + length needle - from = omega arith in
    let none : greatest_group t ≡ 0 = ap greatest_group is.is ∙ no_groups is.texts in
    record {
      captures = empty;
      behind = omega arith;
      ordered = omega arith;
      is_hit = subst (λ m. IsHit s t m (from + i + length needle - from) empty) low
          (subst (λ n. IsHit s t i n empty) high (text_hit s t needle is i there before));
      groups = ap (caps_of from empty) (sym none);
    }

-- one more text in front
abbrev inner : Tree → Trees
inner (cat ts) = ts
inner t = none

pub text_front : (run rest : List ℕ) (ts : List Tree) → IsText (cat (trees_of ts)) rest
    → IsText (cat (trees_of (plain run ∷ ts))) (run ++ rest)
text_front run rest ts is = record {
  texts = run ∷ is.texts;
  is = ap (λ t. cat (then (plain run) (inner t))) is.is;
  joins = ap (λ bytes. run ++ bytes) is.joins;
}

-- the same over a slice that is known to be the rest of the text
pub found_none : (text needle slice : List ℕ) (from count : ℕ) (t : Tree) → slice ≡ drop from text
    → count ≡ length slice → StandsNowhere slice needle count 0 (count + 1) → IsText t needle
    → HasNoHit (drop from text) t
found_none text needle slice from count t same counted nowhere is =
    no_text (drop from text) t needle is
    (subst (λ s. StandsNowhere s needle (length s) 0 (length s + 1)) same
    (subst (λ n. StandsNowhere slice needle n 0 (n + 1)) counted nowhere))

pub found_some : (text needle slice : List ℕ) (from count i : ℕ) (t : Tree) → slice ≡ drop from text
    → count ≡ length slice → StandsAt slice needle count i → StandsNowhere slice needle count 0 i → IsText t needle
    → TellsHit text t from (record { from = from + i; to = from + i + length needle; groups = [] })
found_some text needle slice from count i t same counted there before is =
    tells_text text t needle from i is
    (subst (λ s. StandsAt s needle (length s) i) same (subst (λ n. StandsAt slice needle n i) counted there))
    (subst (λ s. StandsNowhere s needle (length s) 0 i) same
    (subst (λ n. StandsNowhere slice needle n 0 i) counted before))

-- the parts of an expression, one more of which is text
abbrev pub Begins : List Ere → ℕ → List ℕ → Tree → Type 0
Begins eres i text whole =
    (rest : List ℕ) → IsText (cat (trees_of (map view (drop i eres)))) rest → IsText whole (text ++ rest)

pub one_part : (eres : List Ere) (i : ℕ) (part : Ere) (run text new : List ℕ) (whole : Tree) → i < length eres
    → part ≡ get_or eres i part → view part ≡ plain run → new ≡ text ++ run → Begins eres i text whole
    → Begins eres (i + 1) new whole
one_part eres i part run text new whole low is plain_is added begins = λ rest h.
    let here : drop i eres ≡ part ∷ drop (i + 1) eres =
    drop-cons eres i part low ∙ (λ n. sym is n ∷ drop (sym (add-one i) n) eres) in
    let trees : map view (drop i eres) ≡ plain run ∷ map view (drop (i + 1) eres) =
    ap (map view) here ∙ ap (λ t. t ∷ map view (drop (i + 1) eres)) plain_is in
    subst (IsText whole) (sym (ap (λ xs. xs ++ rest) added ∙ append_assoc text run rest))
    (begins (run ++ rest) (subst (λ ts. IsText (cat (trees_of ts)) (run ++ rest)) (sym trees)
    (text_front run rest (map view (drop (i + 1) eres)) h)))

pub all_parts : (eres : List Ere) (i : ℕ) (text : List ℕ) (whole : Tree) → length eres ≤ i
    → Begins eres i text whole → IsText whole text
all_parts eres i text whole past begins =
    let over : map view (drop i eres) ≡ [] = ap (map view) (drop_all i eres past) in
    subst (IsText whole) (append-nil text)
    (begins [] (subst (λ ts. IsText (cat (trees_of ts)) []) (sym over)
    (record { texts = []; is = refl; joins = refl })))

-- What the slow program lists are the derivations: each that is listed derives, and each that derives is listed.
-- Rows of parts or members are lists that grow at their end, so each lemma speaks of a row and what comes behind it.
-- The hard ones are `required-sound` and `required-complete`: the members that have to be there, then the further ones.
use Rattle.std.proofs.Common.{◌≡◌, ℕ, Bool, true, false, cond, Option, Some, None, List, [], ◌∷◌, ◌++◌, ◌+◌, ◌-◌, ◌<◌, ◌≤◌, ◌&&◌, ◌||◌, nat_le, zero, suc, length, map, min, refl, sym, ap, ◌∙◌, subst, inl, inr, arith, true≢false, append_assoc, append-nil, ltb}
use Rattle.std.specs.Prelude.{nat_lt, slice_index}
use Rattle.std.specs.List.{Contains}
use Rattle.std.specs.Char.{to_ascii_lowercase}
use Rattle.std.specs.FinMap.{get}
use Rattle.std.proofs.lemmas.Bool.{lt-ltb, ltb-true, leb-true, le-leb, le-ltb, ltb-false}
use Rattle.std.proofs.lemmas.Option.{none-some}
use Rattle.std.proofs.lemmas.Slice.Eq.{bytes_eq-Decides}
use Rattle.ere_tree.specs.Tree.{Tree, Trees, empty, plain, set, line_start, line_end, cat, alt, repeat, group, back, none, then}
use Rattle.ere_tree.specs.Captures.{Captures}
use Rattle.ere_tree.specs.Derivation.{Way, Ways, leaf, parts, members, chosen, inside, done, next, Derives, DerivesAll, DerivesEach, tree_at, part, IsPart, IsSameText, CanRepeat, count_of}
use Rattle.ere_slow.specs.WayView.{ways_of}
use Rattle.ere_slow.specs.Listing.{Found, Begun, one_if, same_text, stands, is_one_of, further, behind, each_behind, go_on, begin, required, at_most, found_of_row, found_chosen, found_inside, repeat_ways, back_ways, all_ways, all_rows, alternatives}
use Rattle.ere_slow.proofs.MembershipLemmas.{IsIn, IsIn-append_left, IsIn-append_right, IsIn-append_cases, IsIn-map, map-IsIn, IsIn-flat_map, flat_map-IsIn, IsIn-filter, filter-IsIn}
use Rattle.ere_tree.proofs.DerivationLemmas.{is_part, all_are_part, each_is_part, each_count, length-part, same_length}
use Rattle.ere_tree.proofs.CapturesLemmas.{some_same}
use Rattle.ere_tree.proofs.CaseLemmas.{among_contains, contains_among}

abbrev found : Way → ℕ → Captures → Found
found w j c = record { way = w; to = j; captures = c }

abbrev begun : List (ℕ × Way) → ℕ → Captures → Begun
begun row j c = record { row = row; to = j; captures = c }

-- a row as a list
abbrev listed : Ways → List (ℕ × Way)
listed done = []
listed (next k w ws) = (k, w) ∷ listed ws

ways_of-listed : (ws : Ways) → ways_of (listed ws) ≡ ws
ways_of-listed done = refl
ways_of-listed (next k w ws) = ap (next k w) (ways_of-listed ws)

-- TESTS

both_true : (a b : Bool) → (a && b) ≡ true → (a ≡ true) × (b ≡ true)
both_true true b e = (refl, e)
both_true false b e = absurd (true≢false (sym e))

true_both : (a b : Bool) → a ≡ true → b ≡ true → (a && b) ≡ true
true_both a b e f = (λ n. e n && b) ∙ f

same_text-is : (fold : Bool) (xs ys : List ℕ) → same_text fold xs ys ≡ true → IsSameText fold xs ys
same_text-is false xs ys e = (bytes_eq-Decides xs ys).0 e
same_text-is true xs ys e = (bytes_eq-Decides (map to_ascii_lowercase xs) (map to_ascii_lowercase ys)).0 e

is-same_text : (fold : Bool) (xs ys : List ℕ) → IsSameText fold xs ys → same_text fold xs ys ≡ true
is-same_text false xs ys e = (bytes_eq-Decides xs ys).1 e
is-same_text true xs ys e = (bytes_eq-Decides (map to_ascii_lowercase xs) (map to_ascii_lowercase ys)).1 e

is_one_of-Contains : (bytes s : List ℕ) (i : ℕ) → is_one_of bytes s i ≡ true
    → (i < length s) × Contains bytes (slice_index s i)
is_one_of-Contains bytes s i e =
    let both = both_true _ _ e in
    (ltb-true _ _ both.0, among_contains bytes (slice_index s i) both.1)

Contains-is_one_of : (bytes s : List ℕ) (i : ℕ) → i < length s → Contains bytes (slice_index s i)
    → is_one_of bytes s i ≡ true
Contains-is_one_of bytes s i b h = true_both _ _ (lt-ltb _ _ b) (contains_among bytes (slice_index s i) h)

-- TEXTS

one_if-found : (test : Bool) (j : ℕ) (c : Captures) (f : Found) → IsIn f (one_if test j c)
    → (test ≡ true) × (f ≡ found leaf j c)
one_if-found true j c f (inl e) = (refl, e)
one_if-found true j c f (inr h) = absurd h
one_if-found false j c f h = absurd h

found-one_if : (test : Bool) (i j : ℕ) (c d : Captures) → test ≡ true → j ≡ i → d ≡ c
    → IsIn (found leaf j d) (one_if test i c)
found-one_if true i j c d t e f = inl (λ n. found leaf (e n) (f n))
found-one_if false i j c d t e f = absurd (true≢false (sym t))

-- what stands in the slice at i
stands-part : (fold : Bool) (s : List ℕ) (i : ℕ) (text : List ℕ) → stands fold s i text ≡ true
    → IsPart s i (i + length text) × IsSameText fold (part s i (i + length text)) text
stands-part fold s i text e =
    let both = both_true _ _ e in
    ((omega arith, leb-true _ _ both.0), same_text-is fold _ _ both.1)

part-stands : (fold : Bool) (s : List ℕ) (i j : ℕ) (text : List ℕ) → IsPart s i j → IsSameText fold (part s i j) text
    → (j ≡ i + length text) × (stands fold s i text ≡ true)
part-stands fold s i j text p h =
    let end : j ≡ i + length text = omega (arith, length-part s i j p.0 p.1, same_length fold _ _ h, p.0) in (
      end,
      true_both _ _ (le-leb _ _ (omega (arith, p.1, end)))
          (is-same_text fold _ _ (subst (λ k. IsSameText fold (part s i k) text) end h)),
    )

-- ROWS

IsIn-go_on : (may : Bool) (more : ℕ → Captures → List Found) (a : Begun) (f : Found) (bs : List Begun) → IsIn a bs
    → IsIn f (more a.to a.captures) → (may || nat_lt a.to f.to) ≡ true → IsIn (behind a f) (go_on may more bs)
IsIn-go_on may more a f bs h g t =
    IsIn-flat_map (λ b. each_behind may b (more b.to b.captures)) (behind a f) a bs h
    (IsIn-map (behind a) f _ (IsIn-filter (λ x. may || nat_lt a.to x.to) f _ t g))

go_on-IsIn : (may : Bool) (more : ℕ → Captures → List Found) (b : Begun) (bs : List Begun)
    → IsIn b (go_on may more bs)
    → (a : Begun) × (f : Found) × IsIn a bs × IsIn f (more a.to a.captures)
    × ((may || nat_lt a.to f.to) ≡ true) × (b ≡ behind a f)
go_on-IsIn may more b bs h =
    let r = flat_map-IsIn (λ b. each_behind may b (more b.to b.captures)) b bs h in
    let m = map-IsIn (behind r.0) b _ r.2 in
    let g = filter-IsIn (λ x. may || nat_lt r.0.to x.to) m.0 (more r.0.to r.0.captures) m.1 in
    (r.0, m.0, r.1, g.0, g.1, m.2)

-- more behind a row
listed_more : (xs : List (ℕ × Way)) (k : ℕ) (w : Way) (ws : Ways)
    → (xs ++ (k, w) ∷ []) ++ listed ws ≡ xs ++ listed (next k w ws)
listed_more xs k w ws = append_assoc xs ((k, w) ∷ []) (listed ws)

-- EACH THAT IS LISTED DERIVES

-- what `more` lists are derivations of the tree
abbrev IsSound : List ℕ → Tree → (ℕ → Captures → List Found) → Type 0
IsSound s t more = (i : ℕ) (c : Captures) (f : Found) → IsIn f (more i c) → Derives s t f.way i f.to c f.captures

-- each of these rows ends in the slice
abbrev EndWithin : List ℕ → List Begun → Type 0
EndWithin s bs = (b : Begun) → IsIn b bs → b.to ≤ length s

go_on-EndWithin : (s : List ℕ) (t : Tree) (may : Bool) (more : ℕ → Captures → List Found) (bs : List Begun)
    → IsSound s t more → EndWithin s (go_on may more bs)
go_on-EndWithin s t may more bs sound b h =
    let r = go_on-IsIn may more b bs h in
    let a = r.0 in
    let f = r.1 in
    subst (λ (x : Begun). x.to ≤ length s) (sym r.5)
    (is_part s t f.way a.to f.to a.captures f.captures (sound a.to a.captures f r.3)).1

required-EndWithin : (s : List ℕ) (t : Tree) (more : ℕ → Captures → List Found) → IsSound s t more → (n : ℕ)
    (bs : List Begun) → EndWithin s bs → EndWithin s (required more n bs)
required-EndWithin s t more sound zero bs within = within
required-EndWithin s t more sound (suc n) bs within =
    required-EndWithin s t more sound n (go_on true more bs) (go_on-EndWithin s t true more bs sound)

-- how a listed row came about: from a row a, by ways behind it
at_most-sound : (s : List ℕ) (t : Tree) (more : ℕ → Captures → List Found) → IsSound s t more
    → (n : ℕ) (bs : List Begun) (o : Begun) → EndWithin s bs → IsIn o (at_most more n bs)
    → (a : Begun) × (ws : Ways) × IsIn a bs × (o.row ≡ a.row ++ listed ws) × (count_of ws ≤ n)
    × DerivesEach s t zero ws a.to o.to a.captures o.captures
at_most-sound s t more sound zero bs o within h =
    (o, done, h, sym (append-nil o.row), omega arith, (refl, within o h, refl))
at_most-sound s t more sound (suc n) bs o within h =
    elim (IsIn-append_cases o bs (at_most more n (go_on false more bs)) h) [
      | inl g ↦ (o, done, g, sym (append-nil o.row), omega arith, (refl, within o g, refl))
      | inr g ↦
          let r = at_most-sound s t more sound n (go_on false more bs) o
          (go_on-EndWithin s t false more bs sound) g in
          let b = go_on-IsIn false more r.0 bs r.2 in
          let a = b.0 in
          let f = b.1 in
          let rest : DerivesEach s t zero r.1 f.to o.to f.captures o.captures =
          subst (λ x. DerivesEach s t zero r.1 x.to o.to x.captures o.captures) b.5 r.5 in (
            a,
            next f.to f.way r.1,
            b.2,
            r.3 ∙ ap (λ x. x.row ++ listed r.1) b.5 ∙ listed_more a.row f.to f.way r.1,
            omega (arith, r.4),
            (f.captures, sound a.to a.captures f b.3, ltb-true _ _ b.4, rest),
          )
    ]

required-sound : (s : List ℕ) (t : Tree) (more : ℕ → Captures → List Found) → IsSound s t more
    → (n : ℕ) (bs : List Begun) (o : Begun) (vs : Ways) (j : ℕ) (d : Captures) → IsIn o (required more n bs)
    → DerivesEach s t zero vs o.to j o.captures d
    → (a : Begun) × (ws : Ways) × IsIn a bs × (o.row ++ listed vs ≡ a.row ++ listed ws)
    × (count_of ws ≡ n + count_of vs) × DerivesEach s t n ws a.to j a.captures d
required-sound s t more sound zero bs o vs j d h g = (o, vs, h, refl, omega arith, g)
required-sound s t more sound (suc n) bs o vs j d h g =
    let r = required-sound s t more sound n (go_on true more bs) o vs j d h g in
    let b = go_on-IsIn true more r.0 bs r.2 in
    let a = b.0 in
    let f = b.1 in
    let rest : DerivesEach s t n r.1 f.to j f.captures d =
    subst (λ x. DerivesEach s t n r.1 x.to j x.captures d) b.5 r.5 in (
      a,
      next f.to f.way r.1,
      b.2,
      r.3 ∙ ap (λ x. x.row ++ listed r.1) b.5 ∙ listed_more a.row f.to f.way r.1,
      omega (arith, r.4),
      (f.captures, sound a.to a.captures f b.3, rest),
    )

-- the number of further members is one that the bounds allow
further-fits_most : (least most k n count : ℕ) → count ≤ n → (t : Bool) → ltb most least ≡ t
    → cond t None (Some (min k (most - least))) ≡ Some n → CanRepeat least (Some most) (least + count)
further-fits_most least most k n count b true e h = absurd (none-some n h)
further-fits_most least most k n count b false e h =
    let same : min k (most - least) ≡ n = some_same _ _ h in
    (omega arith, omega (arith, same, b, ltb-false _ _ e))

further-fits : (least : ℕ) (most : Option ℕ) (k n : ℕ) → further least most k ≡ Some n → (count : ℕ)
    → count ≤ n → CanRepeat least most (least + count)
further-fits least None k n e count b = (omega arith, tt)
further-fits least (Some most) k n e count b = further-fits_most least most k n count b (ltb most least) refl e

-- a row that came about from no row
row_from_none : (i : ℕ) (c : Captures) (a b : Begun) (ws : Ways) → a ≡ begun [] i c → b.row ≡ a.row ++ listed ws
    → ways_of b.row ≡ ws
row_from_none i c a b ws e h = ap ways_of (h ∙ ap (λ x. x.row ++ listed ws) e) ∙ ways_of-listed ws

start_is : (s : List ℕ) (i : ℕ) (c : Captures) (a : Begun) → IsIn a (begin s i c)
    → (i ≤ length s) × (a ≡ begun [] i c)
start_is s i c a h = each (nat_le i (length s)) refl h
  where
    each : (v : Bool) → nat_le i (length s) ≡ v → IsIn a (cond v (begun [] i c ∷ []) [])
        → (i ≤ length s) × (a ≡ begun [] i c)
    each true e (inl is) = (leb-true _ _ e, is)
    each true e (inr g) = absurd g
    each false e g = absurd g

begin-EndWithin : (s : List ℕ) (i : ℕ) (c : Captures) → EndWithin s (begin s i c)
begin-EndWithin s i c b h =
    let r = start_is s i c b h in
    subst (λ (x : Begun). x.to ≤ length s) (sym r.1) r.0

repeat-sound_row : (s : List ℕ) (t : Tree) (least : ℕ) (most : Option ℕ) (i : ℕ) (c : Captures) (f : Found) (b : Begun)
    → f ≡ found_of_row members b → (a : Begun) (ws : Ways) → IsIn a (begin s i c) → b.row ≡ a.row ++ listed ws
    → CanRepeat least most (count_of ws) → DerivesEach s t least ws a.to b.to a.captures b.captures
    → Derives s (repeat t least most) f.way i f.to c f.captures
repeat-sound_row s t least most i c f b is a ws start row fits each =
    let whole : Derives s (repeat t least most) (members ws) i b.to c b.captures =
    (fits, subst (λ x. DerivesEach s t least ws x.to b.to x.captures b.captures) (start_is s i c a start).1 each) in
    subst (λ g. Derives s (repeat t least most) g.way i g.to c g.captures) (sym is)
    (subst (λ v. Derives s (repeat t least most) (members v) i b.to c b.captures)
    (sym (row_from_none i c a b ws (start_is s i c a start).1 row)) whole)

-- the further members behind the required ones
repeat-sound_both : (s : List ℕ) (t : Tree) (more : ℕ → Captures → List Found) → IsSound s t more
    → (least : ℕ) (most : Option ℕ) (k n : ℕ) → further least most k ≡ Some n
    → (i : ℕ) (c : Captures) (f : Found) (b : Begun) → f ≡ found_of_row members b
    → (a : Begun) × (ws : Ways) × IsIn a (required more least (begin s i c)) × (b.row ≡ a.row ++ listed ws)
    × (count_of ws ≤ n) × DerivesEach s t zero ws a.to b.to a.captures b.captures
    → Derives s (repeat t least most) f.way i f.to c f.captures
repeat-sound_both s t more sound least most k n e i c f b is last =
    let first = required-sound s t more sound least (begin s i c) last.0 last.1 b.to b.captures last.2 last.5 in
    repeat-sound_row s t least most i c f b is first.0 first.1 first.2 (last.3 ∙ first.3)
    (subst (CanRepeat least most) (sym first.4) (further-fits least most k n e (count_of last.1) last.4)) first.5

repeat-sound_at : (s : List ℕ) (t : Tree) (more : ℕ → Captures → List Found) → IsSound s t more
    → (least : ℕ) (most : Option ℕ) (k : ℕ) (o : Option ℕ) → further least most k ≡ o
    → (i : ℕ) (c : Captures) (f : Found) → IsIn f (repeat_ways s more least o i c)
    → Derives s (repeat t least most) f.way i f.to c f.captures
repeat-sound_at s t more sound least most k None e i c f h = absurd h
repeat-sound_at s t more sound least most k (Some n) e i c f h =
    let b = map-IsIn (found_of_row members) f _ h in
    repeat-sound_both s t more sound least most k n e i c f b.0 b.2
    (at_most-sound s t more sound n (required more least (begin s i c)) b.0
    (required-EndWithin s t more sound least (begin s i c) (begin-EndWithin s i c)) b.1)

repeat-sound : (s : List ℕ) (t : Tree) (more : ℕ → Captures → List Found) → IsSound s t more
    → (least : ℕ) (most : Option ℕ) (k : ℕ) (i : ℕ) (c : Captures) (f : Found)
    → IsIn f (repeat_ways s more least (further least most k) i c)
    → Derives s (repeat t least most) f.way i f.to c f.captures
repeat-sound s t more sound least most k = repeat-sound_at s t more sound least most k (further least most k) refl

back-sound : (s : List ℕ) (number : ℕ) (fold : Bool) (i : ℕ) (c : Captures) (p : Option (ℕ × ℕ)) → get c number ≡ p
    → (f : Found) → IsIn f (back_ways fold s p i c) → Derives s (back number fold) f.way i f.to c f.captures
back-sound s number fold i c None e f h = absurd h
back-sound s number fold i c (Some p) e f h =
    let one = one_if-found _ _ c f h in
    let here = stands-part fold s i (part s p.0 p.1) one.0 in
    subst (λ g. Derives s (back number fold) g.way i g.to c g.captures) (sym one.1) (p, e, here.0, here.1, refl)

-- the derivation of one alternative, from the n-th on
record OneOf (s : List ℕ) (ts : Trees) (n i : ℕ) (c : Captures) (f : Found) : Type 0 where
  index : ℕ
  tree : Tree
  inner : Found
  at : tree_at ts index ≡ Some tree
  shows : Derives s tree inner.way i inner.to c inner.captures
  is : f ≡ found_chosen (n + index) inner

mutual
  pub all_ways-sound : (s : List ℕ) (t : Tree) (i : ℕ) (c : Captures) (f : Found) → IsIn f (all_ways s t i c)
      → Derives s t f.way i f.to c f.captures
  all_ways-sound s empty i c f h =
      let one = one_if-found _ i c f h in
      subst (λ g. Derives s empty g.way i g.to c g.captures) (sym one.1) (refl, leb-true _ _ one.0, refl)
  all_ways-sound s (plain bytes) i c f h =
      let one = one_if-found _ _ c f h in
      let here = stands-part false s i bytes one.0 in
      subst (λ g. Derives s (plain bytes) g.way i g.to c g.captures) (sym one.1) (here.0, here.1, refl)
  all_ways-sound s (set bytes) i c f h =
      let one = one_if-found _ _ c f h in
      let here = is_one_of-Contains bytes s i one.0 in
      subst (λ g. Derives s (set bytes) g.way i g.to c g.captures) (sym one.1) (refl, here.0, here.1, refl)
  all_ways-sound s line_start i c f h =
      let one = one_if-found _ _ c f h in
      subst (λ g. Derives s line_start g.way i g.to c g.captures) (sym one.1) (refl, one.0, refl)
  all_ways-sound s line_end i c f h =
      let one = one_if-found _ _ c f h in
      subst (λ g. Derives s line_end g.way i g.to c g.captures) (sym one.1) (refl, one.0, refl)
  all_ways-sound s (cat all) i c f h =
      let b = map-IsIn (found_of_row parts) f _ h in
      let r = all_rows-sound s all (begin s i c) b.0 (begin-EndWithin s i c) b.1 in
      let start = (start_is s i c r.0 r.2).1 in
      let whole : Derives s (cat all) (parts r.1) i b.0.to c b.0.captures =
      subst (λ x. DerivesAll s all r.1 x.to b.0.to x.captures b.0.captures) start r.4 in
      subst (λ g. Derives s (cat all) g.way i g.to c g.captures) (sym b.2)
      (subst (λ v. Derives s (cat all) (parts v) i b.0.to c b.0.captures)
      (sym (row_from_none i c r.0 b.0 r.1 start r.3)) whole)
  all_ways-sound s (alt all) i c f h =
      let r = alternatives-sound s all 0 i c f h in
      let index : 0 + r.index ≡ r.index = omega arith in
      let is : f ≡ found_chosen r.index r.inner = r.is ∙ ap (λ n. found_chosen n r.inner) index in
      subst (λ g. Derives s (alt all) g.way i g.to c g.captures) (sym is) (r.tree, r.at, r.shows)
  all_ways-sound s (repeat inner least most) i c f h =
      repeat-sound s inner (all_ways s inner) (λ j d g. all_ways-sound s inner j d g) least most (length s - i) i c f h
  all_ways-sound s (group number inner) i c f h =
      let g = map-IsIn (found_inside number i) f _ h in
      subst (λ x. Derives s (group number inner) x.way i x.to c x.captures) (sym g.2)
      (g.0.captures, all_ways-sound s inner i c g.0 g.1, refl)
  all_ways-sound s (back number fold) i c f h = back-sound s number fold i c (get c number) refl f h

  all_rows-sound : (s : List ℕ) (ts : Trees) (bs : List Begun) (o : Begun) → EndWithin s bs
      → IsIn o (all_rows s ts bs)
      → (a : Begun) × (ws : Ways) × IsIn a bs × (o.row ≡ a.row ++ listed ws)
      × DerivesAll s ts ws a.to o.to a.captures o.captures
  all_rows-sound s none bs o within h = (o, done, h, sym (append-nil o.row), (refl, within o h, refl))
  all_rows-sound s (then t ts) bs o within h =
      let sound : IsSound s t (all_ways s t) = λ i c f g. all_ways-sound s t i c f g in
      let r = all_rows-sound s ts (go_on true (all_ways s t) bs) o
      (go_on-EndWithin s t true (all_ways s t) bs sound) h in
      let b = go_on-IsIn true (all_ways s t) r.0 bs r.2 in
      let a = b.0 in
      let f = b.1 in
      let rest : DerivesAll s ts r.1 f.to o.to f.captures o.captures =
      subst (λ x. DerivesAll s ts r.1 x.to o.to x.captures o.captures) b.5 r.4 in (
        a,
        next f.to f.way r.1,
        b.2,
        r.3 ∙ ap (λ x. x.row ++ listed r.1) b.5 ∙ listed_more a.row f.to f.way r.1,
        (f.captures, all_ways-sound s t a.to a.captures f b.3, rest),
      )

  alternatives-sound : (s : List ℕ) (ts : Trees) (n i : ℕ) (c : Captures) (f : Found)
      → IsIn f (alternatives s ts n i c)
      → OneOf s ts n i c f
  alternatives-sound s none n i c f h = absurd h
  alternatives-sound s (then t ts) n i c f h =
      elim (IsIn-append_cases f (map (found_chosen n) (all_ways s t i c)) (alternatives s ts (n + 1) i c) h) [
        | inl g ↦
            let m = map-IsIn (found_chosen n) f _ g in
            let same : n ≡ n + 0 = omega arith in
            record {
              index = zero;
              tree = t;
              inner = m.0;
              at = refl;
              shows = all_ways-sound s t i c m.0 m.1;
              is = m.2 ∙ ap (λ k. found_chosen k m.0) same;
            }
        | inr g ↦
            let r = alternatives-sound s ts (n + 1) i c f g in
            let same : n + 1 + r.index ≡ n + suc r.index = omega arith in
            record {
              index = suc r.index;
              tree = r.tree;
              inner = r.inner;
              at = r.at;
              shows = r.shows;
              is = r.is ∙ ap (λ k. found_chosen k r.inner) same;
            }
      ]

-- EACH THAT DERIVES IS LISTED

-- `more` lists all derivations of the tree
abbrev IsComplete : List ℕ → Tree → (ℕ → Captures → List Found) → Type 0
IsComplete s t more =
    (w : Way) (i j : ℕ) (c d : Captures) → Derives s t w i j c d → IsIn (found w j d) (more i c)

still_there : (bs : List Begun) (a : Begun) (j : ℕ) (d : Captures) → IsIn a bs → j ≡ a.to → d ≡ a.captures
    → IsIn (begun (a.row ++ []) j d) bs
still_there bs a j d h e f = subst (λ x. IsIn x bs) (λ n. begun (sym (append-nil a.row) n) (sym e n) (sym f n)) h

at_most-complete : (s : List ℕ) (t : Tree) (more : ℕ → Captures → List Found) → IsComplete s t more
    → (n : ℕ) (ws : Ways) (bs : List Begun) (a : Begun) (j : ℕ) (d : Captures) → IsIn a bs → count_of ws ≤ n
    → DerivesEach s t zero ws a.to j a.captures d → IsIn (begun (a.row ++ listed ws) j d) (at_most more n bs)
at_most-complete s t more complete zero done bs a j d h b g = still_there bs a j d h g.0 g.2
at_most-complete s t more complete zero (next k w ws) bs a j d h b g = absurd (omega arith)
at_most-complete s t more complete (suc n) done bs a j d h b g =
    IsIn-append_left _ bs _ (still_there bs a j d h g.0 g.2)
at_most-complete s t more complete (suc n) (next k w ws) bs a j d h b g =
    let f = found w k g.0 in
    let rest = at_most-complete s t more complete n ws (go_on false more bs) (behind a f) j d
    (IsIn-go_on false more a f bs h (complete w a.to k a.captures g.0 g.1) (lt-ltb _ _ g.2)) (omega arith) g.3 in
    IsIn-append_right _ bs _ (subst (λ r. IsIn (begun r j d) (at_most more n (go_on false more bs)))
    (listed_more a.row k w ws) rest)

required-complete : (s : List ℕ) (t : Tree) (more : ℕ → Captures → List Found) → IsComplete s t more
    → (n : ℕ) (least : ℕ) (ws : Ways) (bs : List Begun) (a : Begun) (j : ℕ) (d : Captures) → IsIn a bs
    → least ≤ count_of ws → count_of ws ≤ least + n
    → DerivesEach s t least ws a.to j a.captures d
    → IsIn (begun (a.row ++ listed ws) j d) (at_most more n (required more least bs))
required-complete s t more complete n zero ws bs a j d h l b g =
    at_most-complete s t more complete n ws bs a j d h (omega arith) g
required-complete s t more complete n (suc least) done bs a j d h l b g = absurd (omega arith)
required-complete s t more complete n (suc least) (next k w ws) bs a j d h l b g =
    let f = found w k g.0 in
    let rest = required-complete s t more complete n least ws (go_on true more bs) (behind a f) j d
    (IsIn-go_on true more a f bs h (complete w a.to k a.captures g.0 g.1) refl) (omega arith) (omega arith) g.2 in
    subst (λ r. IsIn (begun r j d) (at_most more n (required more least (go_on true more bs))))
    (listed_more a.row k w ws) rest

-- the row of no derivation is listed at a place of the slice
listed_start : (s : List ℕ) (i : ℕ) (c : Captures) → i ≤ length s → IsIn (begun [] i c) (begin s i c)
listed_start s i c within = rw (le-leb i (length s) within) (inl refl)

-- bounds that a number of members meets allow that number of further members
fits-further : (least : ℕ) (most : Option ℕ) (k count : ℕ) → CanRepeat least most count → count ≤ least + k
    → (n : ℕ) × (further least most k ≡ Some n) × (count ≤ least + n)
fits-further least None k count h b = (k, refl, b)
fits-further least (Some most) k count h b = (
  min k (most - least),
  ap (λ t. cond t None (Some (min k (most - least)))) (le-ltb most least (omega (arith, h.0, h.1))),
  omega (arith, h.0, h.1, b),
)

-- from a row of members to the repeat
repeat-complete_row : (s : List ℕ) (more : ℕ → Captures → List Found) (least : ℕ) (o : Option ℕ) (n : ℕ) (ws : Ways) (i j : ℕ)
    (c d : Captures) → o ≡ Some n
    → IsIn (begun (listed ws) j d) (at_most more n (required more least (begin s i c)))
    → IsIn (found (members ws) j d) (repeat_ways s more least o i c)
repeat-complete_row s more least o n ws i j c d is row =
    subst (λ o. IsIn (found (members ws) j d) (repeat_ways s more least o i c)) (sym is)
    (subst (λ v. IsIn (found (members v) j d) (repeat_ways s more least (Some n) i c)) (ways_of-listed ws)
    (IsIn-map (found_of_row members) (begun (listed ws) j d) _ row))

repeat-complete_at : (s : List ℕ) (t : Tree) (more : ℕ → Captures → List Found) → IsComplete s t more
    → (least : ℕ) (most : Option ℕ) (ws : Ways) (i j : ℕ) (c d : Captures) → least ≤ count_of ws
    → DerivesEach s t least ws i j c d
    → (n : ℕ) × (further least most (length s - i) ≡ Some n) × (count_of ws ≤ least + n)
    → IsIn (found (members ws) j d) (repeat_ways s more least (further least most (length s - i)) i c)
repeat-complete_at s t more complete least most ws i j c d enough h n =
    let lies = each_is_part s t least ws i j c d h in
    repeat-complete_row s more least (further least most (length s - i)) n.0 ws i j c d n.1
    (required-complete s t more complete n.0 least ws (begin s i c) (begun [] i c) j d
    (listed_start s i c (omega (arith, lies.0, lies.1))) enough n.2 h)

repeat-complete : (s : List ℕ) (t : Tree) (more : ℕ → Captures → List Found) → IsComplete s t more
    → (least : ℕ) (most : Option ℕ) (ws : Ways) (i j : ℕ) (c d : Captures) → CanRepeat least most (count_of ws)
    → DerivesEach s t least ws i j c d
    → IsIn (found (members ws) j d) (repeat_ways s more least (further least most (length s - i)) i c)
repeat-complete s t more complete least most ws i j c d fits h =
    let lies = each_is_part s t least ws i j c d h in
    repeat-complete_at s t more complete least most ws i j c d fits.0 h
    (fits-further least most (length s - i) (count_of ws) fits
    (omega (arith, each_count s t least ws i j c d h, lies.0, lies.1)))

mutual
  pub all_ways-complete : (s : List ℕ) (t : Tree) (w : Way) (i j : ℕ) (c d : Captures) → Derives s t w i j c d
      → IsIn (found w j d) (all_ways s t i c)
  all_ways-complete s empty leaf i j c d h = found-one_if _ i j c d (le-leb i (length s) h.1) h.0 h.2
  all_ways-complete s empty w i j c d h = absurd h
  all_ways-complete s (plain bytes) leaf i j c d h =
      let here = part-stands false s i j bytes h.0 h.1 in found-one_if _ _ j c d here.1 here.0 h.2
  all_ways-complete s (plain bytes) w i j c d h = absurd h
  all_ways-complete s (set bytes) leaf i j c d h =
      found-one_if _ _ j c d (Contains-is_one_of bytes s i h.1 h.2) h.0 h.3
  all_ways-complete s (set bytes) w i j c d h = absurd h
  all_ways-complete s line_start leaf i j c d h = found-one_if _ _ j c d h.1 h.0 h.2
  all_ways-complete s line_start w i j c d h = absurd h
  all_ways-complete s line_end leaf i j c d h = found-one_if _ _ j c d h.1 h.0 h.2
  all_ways-complete s line_end w i j c d h = absurd h
  all_ways-complete s (cat all) (parts ws) i j c d h =
      let lies = all_are_part s all ws i j c d h in
      let row = all_rows-complete s all ws (begin s i c) (begun [] i c) j d
      (listed_start s i c (omega (arith, lies.0, lies.1))) h in
      subst (λ v. IsIn (found (parts v) j d) (all_ways s (cat all) i c)) (ways_of-listed ws)
      (IsIn-map (found_of_row parts) _ _ row)
  all_ways-complete s (cat all) w i j c d h = absurd h
  all_ways-complete s (alt all) (chosen n w) i j c d h =
      let same : 0 + n ≡ n = omega arith in
      subst (λ m. IsIn (found (chosen m w) j d) (alternatives s all 0 i c)) same
      (alternatives-complete s all 0 n h.0 w i j c d h.1 h.2)
  all_ways-complete s (alt all) w i j c d h = absurd h
  all_ways-complete s (repeat inner least most) (members ws) i j c d h =
      repeat-complete s inner (all_ways s inner)
      (λ w k l e f. all_ways-complete s inner w k l e f) least most ws i j c d h.0 h.1
  all_ways-complete s (repeat inner least most) w i j c d h = absurd h
  all_ways-complete s (group number inner) (inside w) i j c d h =
      subst (λ e. IsIn (found (inside w) j e) (all_ways s (group number inner) i c)) (sym h.2)
      (IsIn-map (found_inside number i) _ _ (all_ways-complete s inner w i j c h.0 h.1))
  all_ways-complete s (group number inner) w i j c d h = absurd h
  all_ways-complete s (back number fold) leaf i j c d h =
      let here = part-stands fold s i j (part s h.0.0 h.0.1) h.2 h.3 in
      subst (λ o. IsIn (found leaf j d) (back_ways fold s o i c)) (sym h.1) (found-one_if _ _ j c d here.1 here.0 h.4)
  all_ways-complete s (back number fold) w i j c d h = absurd h

  all_rows-complete : (s : List ℕ) (ts : Trees) (ws : Ways) (bs : List Begun) (a : Begun) (j : ℕ) (d : Captures)
      → IsIn a bs → DerivesAll s ts ws a.to j a.captures d → IsIn (begun (a.row ++ listed ws) j d) (all_rows s ts bs)
  all_rows-complete s none done bs a j d h g = still_there bs a j d h g.0 g.2
  all_rows-complete s none (next k w ws) bs a j d h g = absurd g
  all_rows-complete s (then t ts) done bs a j d h g = absurd g
  all_rows-complete s (then t ts) (next k w ws) bs a j d h g =
      let f = found w k g.0 in
      let rest = all_rows-complete s ts ws (go_on true (all_ways s t) bs) (behind a f) j d
      (IsIn-go_on true (all_ways s t) a f bs h (all_ways-complete s t w a.to k a.captures g.0 g.1) refl) g.2 in
      subst (λ r. IsIn (begun r j d) (all_rows s ts (go_on true (all_ways s t) bs))) (listed_more a.row k w ws) rest

  alternatives-complete : (s : List ℕ) (ts : Trees) (n k : ℕ) (one : Tree) (w : Way) (i j : ℕ) (c d : Captures)
      → tree_at ts k ≡ Some one → Derives s one w i j c d
      → IsIn (found (chosen (n + k) w) j d) (alternatives s ts n i c)
  alternatives-complete s none n k one w i j c d e h = absurd (none-some one e)
  alternatives-complete s (then t ts) n zero one w i j c d e h =
      let same : n + 0 ≡ n = omega arith in
      let here = all_ways-complete s t w i j c d (subst (λ u. Derives s u w i j c d) (sym (some_same _ _ e)) h) in
      IsIn-append_left _ (map (found_chosen n) (all_ways s t i c)) _
      (subst (λ m. IsIn (found (chosen m w) j d) (map (found_chosen n) (all_ways s t i c))) (sym same)
      (IsIn-map (found_chosen n) _ _ here))
  alternatives-complete s (then t ts) n (suc k) one w i j c d e h =
      let same : n + 1 + k ≡ n + suc k = omega arith in
      IsIn-append_right _ (map (found_chosen n) (all_ways s t i c)) _
      (subst (λ m. IsIn (found (chosen m w) j d) (alternatives s ts (n + 1) i c)) same
      (alternatives-complete s ts (n + 1) k one w i j c d e h))

-- THE PROGRAM'S LOOPS

pub required_more : (more : ℕ → Captures → List Found) (least k : ℕ) (bs : List Begun) → k < least
    → required more (least - k) bs ≡ required more (least - (k + 1)) (go_on true more bs)
required_more more least k bs b =
    let one : least - k ≡ suc (least - (k + 1)) = omega arith in ap (λ n. required more n bs) one

pub at_most_more : (more : ℕ → Captures → List Found) (n k : ℕ) (bs : List Begun) → k < n
    → at_most more (n - k) bs ≡ bs ++ at_most more (n - (k + 1)) (go_on false more bs)
at_most_more more n k bs b =
    let one : n - k ≡ suc (n - (k + 1)) = omega arith in ap (λ m. at_most more m bs) one

pub none_further : (more : ℕ → Captures → List Found) (n : ℕ) → at_most more n [] ≡ []
none_further more zero = refl
none_further more (suc n) = none_further more n

pub at_most_over : (more : ℕ → Captures → List Found) (n k : ℕ) (bs : List Begun) → n ≤ k → at_most more (n - k) bs ≡ bs
at_most_over more n k bs b = let none_left : n - k ≡ 0 = omega arith in ap (λ m. at_most more m bs) none_left

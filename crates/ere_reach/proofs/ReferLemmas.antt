-- A reference leads from a place to the end of what stands there as its group holds it.
-- What is told of the group is the same text, so it is as long, and nothing is told of what stands nowhere behind.
-- The hard one is `ends`: wherever a reference ends, what is told stands at the place, and it ends behind as much.
use Rattle.std.proofs.Common.{◌≡◌, ℕ, ◌+◌, ◌-◌, ◌≤◌, Bool, true, false, IsTrue, Option, Some, None, List, [], ◌∷◌, length, map, drop, refl, sym, ap, ◌∙◌, subst, inl, inr, arith, true≢false, length-take, length-drop}
use Rattle.std.specs.Char.{to_ascii_lowercase}
use Rattle.std.specs.FinMap.{get}
use Rattle.std.proofs.lemmas.List.{length-map}
use Rattle.ere_tree.proofs.CapturesLemmas.{some_same}
use Rattle.ere_tree.specs.Captures.{Captures}
use Rattle.ere_tree.specs.Derivation.{leaf, IsPart, IsSameText, part}
use Rattle.ere_tree.specs.Tree.{back}
use Rattle.ere_tree.specs.declared.hit.Cap.{Cap}
use Rattle.ere_reach.specs.declared.held.Held.{Held}
use Rattle.ere_reach.specs.declared.rows.Rows.{Rows}
use Rattle.ere_reach.specs.declared.site.Site.{Site}
use Rattle.ere_reach.specs.Held.{Covers, IsKept, Tells, part_in}
use Rattle.ere_reach.specs.Leads.{Does, FitsText, StandsAt}
use Rattle.ere_reach.specs.Live.{HasRead, reads}
use Rattle.ere_reach.specs.Rows.{HasState, IsPut, States}
use Rattle.ere_reach.proofs.CoversLemmas.{covers_on}
use Rattle.ere_reach.proofs.StepLemmas.{FullBy, GoesBy, GoneBy, Never, full_stays}
use Rattle.ere_reach.proofs.TakenLemmas.{Grows, gone_put_one, gone_skip, gone_skip_one}

pub length_part : (s : List ℕ) (i j : ℕ) → IsPart s i j → length (part s i j) ≡ j - i
length_part s i j lies = omega (arith, length-take (j - i) (drop i s), length-drop i s, lies.0, lies.1)

-- texts that are one are as long, and are one with letters in either case
pub same_length : (fold : Bool) (xs ys : List ℕ) → IsSameText fold xs ys → length xs ≡ length ys
same_length false xs ys same = ap length same
same_length true xs ys same =
    sym (length-map xs to_ascii_lowercase) ∙ ap length same ∙ length-map ys to_ascii_lowercase

pub same_folded : (fold : Bool) (xs ys : List ℕ) → IsSameText fold xs ys → IsSameText true xs ys
same_folded false xs ys same = ap (map to_ascii_lowercase) same
same_folded true xs ys same = same

pub same_width : (fold : Bool) (s : List ℕ) (i j a b : ℕ) → IsPart s i j → IsPart s a b
    → IsSameText fold (part s i j) (part s a b) → j - i ≡ b - a
same_width fold s i j a b one other same =
    sym (length_part s i j one) ∙ same_length fold (part s i j) (part s a b) same ∙ length_part s a b other

refers_out : (s : List ℕ) (number : ℕ) (fold : Bool) (p q : ℕ) (c d : Captures) → Does s (back number fold) p q c d
    → (r : ℕ × ℕ) × (get c number ≡ Some r) × IsPart s p q × IsSameText fold (part s p q) (part s r.0 r.1) × (d ≡ c)
refers_out s number fold p q c d (leaf, h) = h
refers_out s number fold p q c d (w, h) = absurd h

-- what steps are from, what they ask for, and what was gone through so far
abbrev pub RefersTo : Site → ℕ → Bool → List ℕ → List Held → ℕ → States
RefersTo site number fold live = GoesBy site (Does site.text.now (back number fold)) (reads (back number fold)) live

abbrev pub RefersFully : Site → ℕ → Bool → List ℕ → List Held → ℕ → States → Type 0
RefersFully site number fold live = FullBy site (Does site.text.now (back number fold)) (reads (back number fold)) live

abbrev pub RefersSoFar : Site → ℕ → Bool → List ℕ → States → Rows → Type 0
RefersSoFar site number fold live = GoneBy site (Does site.text.now (back number fold)) (reads (back number fold)) live

module _ (site : Site) (number : ℕ) (fold : Bool) (live : List ℕ) where
  -- where nothing is told of the group, no reference to it matches
  refers_none : (g : List Held) (p : ℕ) (F : States) → part_in g number ≡ None
      → RefersFully site number fold live g p F
  refers_none g p F untold before has c q d covers does fits =
      let s = site.text.now in
      let r = refers_out s number fold p q c d does in
      let nowhere : Tells s site.high p None (Some r.0) =
      subst (λ (holds : Option (ℕ × ℕ)). Tells s site.high p None holds) r.1
      (subst (λ (cap : Option Cap). Tells s site.high p cap (get c number)) untold (covers number (has number (inl refl)))) in
      absurd (nowhere p q (omega arith) fits r.2 (same_folded fold (part s p q) (part s r.0.0 r.0.1) r.3))

  -- what is told of the group is the same text
  told : (before : List ℕ) (g : List Held) (p : ℕ) (c : Captures) (cap : Cap) → part_in g number ≡ Some cap
      → HasRead (reads (back number fold)) live before → Covers site.text.now site.high before g p c
      → (r : ℕ × ℕ) × (get c number ≡ Some r) × IsPart site.text.now cap.from cap.to
      × (part site.text.now r.0 r.1 ≡ part site.text.now cap.from cap.to)
  told before g p c cap is has covers =
      subst (λ (x : Option Cap). Tells site.text.now site.high p x (get c number)) is
      (covers number (has number (inl refl)))

  -- so a reference goes to the end of as much, where it stands there
  ends : (before : List ℕ) (g : List Held) (p q : ℕ) (c d : Captures) (cap : Cap) (answer : Bool)
      → part_in g number ≡ Some cap → StandsAt site p cap fold answer → HasRead (reads (back number fold)) live before
      → Covers site.text.now site.high before g p c → Does site.text.now (back number fold) p q c d → q ≤ site.high
      → (q ≡ p + (cap.to - cap.from)) × IsTrue answer × (d ≡ c)
  ends before g p q c d cap answer is stands has covers does fits =
      let s = site.text.now in
      let r = refers_out s number fold p q c d does in
      let t = told before g p c cap is has covers in
      let same : IsSameText fold (part s p q) (part s cap.from cap.to) =
      subst (IsSameText fold (part s p q))
      (ap (λ (x : ℕ × ℕ). part s x.0 x.1) (some_same r.0 t.0 (sym r.1 ∙ t.1)) ∙ t.3) r.3 in
      let at : q ≡ p + (cap.to - cap.from) =
      omega (arith, same_width fold s p q cap.from cap.to r.2 t.2 same, r.2.0) in (
        at,
        (stands t.2).1 (omega arith, subst (λ n. IsSameText fold (part s p n) (part s cap.from cap.to)) at same),
        r.4,
      )

  pub refers_untold : (g : List Held) (places : List ℕ) (S T : States) (found : Rows) → part_in g number ≡ None
      → Grows S g places T → RefersSoFar site number fold live S found → RefersSoFar site number fold live T found
  refers_untold g places S T found untold grows gone =
      gone_skip Never (RefersTo site number fold live) (RefersFully site number fold live) S T (HasState found) g places
      (full_stays site (Does site.text.now (back number fold)) (reads (back number fold)) live) grows
      (λ p at. refers_none g p (HasState found) untold) gone

  pub refers_skip : (g : List Held) (p : ℕ) (cap : Cap) (answer : Bool) (S T : States) (found : Rows)
      → part_in g number ≡ Some cap → StandsAt site p cap fold answer → answer ≡ false → Grows S g (p ∷ []) T
      → RefersSoFar site number fold live S found → RefersSoFar site number fold live T found
  refers_skip g p cap answer S T found is stands fails grows gone =
      gone_skip_one Never (RefersTo site number fold live) (RefersFully site number fold live) S T (HasState found) g p
      (full_stays site (Does site.text.now (back number fold)) (reads (back number fold)) live) grows
      (λ before has c q d covers does fits.
      absurd (true≢false (sym (ends before g p q c d cap answer is stands has covers does fits).1 ∙ fails))) gone

  same_on : (before : List ℕ) (g h : List Held) (p q : ℕ) (c d : Captures) → p ≤ q → IsKept live g h → d ≡ c
      → HasRead (reads (back number fold)) live before → Covers site.text.now site.high before g p c
      → Covers site.text.now site.high live h q d
  same_on before g h p q c d on kept same has covers =
      covers_on site.text.now site.high before live g h p q c d on (λ n read. has n (inr (read, refl))) kept
      (λ n read. ap (λ x. get x n) same) covers

  -- one place from which it goes on
  pub refers_more : FitsText site → (g h : List Held) (p : ℕ) (cap : Cap) (answer : Bool) (S T : States)
      (old new : Rows) → part_in g number ≡ Some cap → StandsAt site p cap fold answer → IsTrue answer
      → site.low ≤ p → p + (cap.to - cap.from) ≤ site.high → IsKept live g h → Grows S g (p ∷ []) T
      → IsPut old h ((p + (cap.to - cap.from)) ∷ []) new
      → RefersSoFar site number fold live S old → RefersSoFar site number fold live T new
  refers_more fits g h p cap answer S T old new is stands holds in_low in_high kept grows put gone =
      gone_put_one Never (RefersTo site number fold live) (RefersFully site number fold live) S T old new g h p
      (p + (cap.to - cap.from))
      (full_stays site (Does site.text.now (back number fold)) (reads (back number fold)) live) grows put goes whole gone
    where
      goes : RefersTo site number fold live g p h (p + (cap.to - cap.from))
      goes = (
        omega arith,
        in_high,
        λ before has c covers.
            let s = site.text.now in
            let t = told before g p c cap is has covers in (
              c,
              (
                leaf,
                (
                  t.0,
                  t.1,
                  (omega arith, omega (arith, fits)),
                  subst (IsSameText fold (part s p (p + (cap.to - cap.from)))) (sym t.3) ((stands t.2).0 holds).1,
                  refl,
                ),
              ),
              same_on before g h p (p + (cap.to - cap.from)) c c (omega arith) kept refl has covers,
            ),
      )

      whole : RefersFully site number fold live g p (HasState new)
      whole before has c q d covers does low =
          let e = ends before g p q c d cap answer is stands has covers does low in (
            h,
            (put h q).1 (inr (refl, (0, omega arith, sym e.0))),
            same_on before g h p q c d (omega (arith, e.0)) kept e.2 has covers,
          )

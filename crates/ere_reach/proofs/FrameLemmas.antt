-- The inside of a group is told from those groups alone that it reads, and what other groups held before stands beside it.
-- `framed_leads` takes what is told over to all groups that are read behind; `leads_from` tells what rows of one state lead to.
-- The hard one is `ends`: a group that can't be set inside holds behind what it held before.
use Rattle.std.proofs.Common.{◌≡◌, ◌⊎◌, ℕ, ◌+◌, ◌<◌, ◌≤◌, ◌==◌, Bool, true, false, if◌then◌else◌, Option, List, [], ◌∷◌, ◌++◌, length, get_or, take, refl, sym, subst, inl, inr, arith, eqb-true}
use Rattle.std.specs.FinMap.{get}
use Rattle.std.specs.List.{Contains, list_any}
use Rattle.std.proofs.lemmas.List.Elements.{Contains-append_left, Contains-push, Contains-push_cases}
use Rattle.std.proofs.lemmas.Map.Views.{Contains-from_any}
use Rattle.ere_places.proofs.ListLemmas.{taken}
use Rattle.ere_tree.proofs.DerivationLemmas.{is_part}
use Rattle.ere_tree.specs.Captures.{Captures}
use Rattle.ere_tree.specs.Derivation.{Way, Derives}
use Rattle.ere_tree.specs.Tree.{Tree}
use Rattle.ere_tree.specs.declared.hit.Cap.{Cap}
use Rattle.ere_reach.specs.declared.held.Held.{Held}
use Rattle.ere_reach.specs.declared.row.Row.{Row}
use Rattle.ere_reach.specs.declared.rows.Rows.{Rows}
use Rattle.ere_reach.specs.declared.site.Site.{Site}
use Rattle.ere_reach.specs.Held.{Covers, IsKept, Tells, part_in}
use Rattle.ere_reach.specs.Leads.{Does, LeadsOver}
use Rattle.ere_reach.specs.Live.{AreRead, HasRead, reads}
use Rattle.ere_reach.specs.Memo.{HasSetIn, IsFramed, IsFramedBy, LeadsFrom}
use Rattle.ere_reach.specs.Moving.{sets_one}
use Rattle.ere_reach.specs.Rows.{HasState, IsPut, States}
use Rattle.ere_reach.proofs.CoversLemmas.{covers_on}
use Rattle.ere_reach.proofs.HeldLemmas.{IsMade}
use Rattle.ere_reach.proofs.KeepsLemmas.{of_state, state_of}
use Rattle.ere_reach.proofs.StepLemmas.{Never, no_state, passes_none, untouched}
use Rattle.ere_reach.proofs.TakenLemmas.{Gone, Grows, Taken, gone_none, gone_put, one_has, one_is, taken_none}

-- WHAT OTHER GROUPS HELD

module _ (site : Site) (t : Tree) (own others read : List ℕ) (held key : List Held) (place : ℕ)
    (stand : HasSetIn t others own) (are : AreRead (reads t) own read) (kept : IsKept read held key)
    (before : List ℕ) (has : HasRead (reads t) others before) where
  starts : (c : Captures) → Covers site.text.now site.high before held place c
      → Covers site.text.now site.high read key place c
  starts c covers = covers_on site.text.now site.high before read held key place place c c (omega arith) fewer kept
      (λ n at. refl) covers
    where
      fewer : (n : ℕ) → Contains read n → Contains before n
      fewer n at = elim ((are n).0 at) [
        | inl refers ↦ has n (inl refers)
        | inr (in_own, unset) ↦ has n (inr (stand.0 n in_own, unset))
      ]

  ends : (g h : List Held) (w : Way) (q : ℕ) (c d : Captures) → IsFramedBy own others held g h
      → Derives site.text.now t w place q c d → Covers site.text.now site.high before held place c
      → Covers site.text.now site.high own g q d → Covers site.text.now site.high others h q d
  ends g h w q c d framed derives covers inner n at = elim (framed n at) [
    | inl (in_own, same) ↦
        subst (λ (cap : Option Cap). Tells site.text.now site.high q cap (get d n)) (sym same) (inner n in_own)
    | inr (out, same) ↦ elim (stand.1 n at) [
      | inl in_own ↦ absurd (out in_own)
      | inr unset ↦
          let stays = untouched site.text.now (n ∷ []) n (one_has n) t w place q c d unset derives in
          covers_on site.text.now site.high before (n ∷ []) held h place q c d
          (is_part site.text.now t w place q c d derives).0
          (λ m here. subst (Contains before) (one_is n m here) (has n (inr (at, stays.1))))
          (λ m here. subst (λ x. part_in h x ≡ part_in held x) (one_is n m here) same)
          (λ m here. subst (λ x. get d x ≡ get c x) (one_is n m here) stays.0) covers n (one_has n)
    ]
  ]

pub framed_leads : (site : Site) (t : Tree) (own others read : List ℕ) (held key : List Held) (place : ℕ)
    (inside found : Rows) → HasSetIn t others own → AreRead (reads t) own read → IsKept read held key
    → LeadsFrom site t own key place inside → IsFramed own others held inside found
    → LeadsFrom site t others held place found
framed_leads site t own others read held key place inside found stand are kept leads framed before has =
    let all = leads read (λ n r. (are n).1 r) in
    let from = starts site t own others read held key place stand are kept before has in
    let to = ends site t own others read held key place stand are kept before has in
    record {
      sound = λ h q f c covers.
          let g = framed.0 h q f in
          let d = all.sound g.0 q g.1 c (from c covers) in
          (d.0, d.1, to g.0 h d.1.0 q c d.0 g.2 d.1.1 covers d.2);
      complete = λ c q d covers does fits.
          let g = all.complete c q d (from c covers) does fits in
          let h = framed.1 g.0 q g.1 in
          (h.0, h.1, to g.0 h.0 does.0 q c d h.2 does.1 covers g.2);
      inside = λ h q f. let g = framed.0 h q f in all.inside g.0 q g.1;
    }

-- ROWS OF ONE STATE

pub leads_from : (site : Site) (t : Tree) (live : List ℕ) (held : List Held) (place : ℕ) (start one found : Rows)
    → start.rows.items ≡ [] → IsPut start held (place ∷ []) one → LeadsOver site t live one found
    → LeadsFrom site t live held place found
leads_from site t live held place start one found is put leads before has =
    let all = leads before has in
    record {
      sound = λ h q f c covers.
          let b = all.sound h q f in
          let was : (b.0 ≡ held) × Contains (place ∷ []) b.1 = elim ((put b.0 b.1).0 b.2) [
            | inl never ↦ absurd ((no_state start is b.0 b.1).0 never)
            | inr here ↦ here
          ] in
          let at : place ≡ b.1 = one_is place b.1 was.1 in
          let d = b.3 c (subst (λ x. Covers site.text.now site.high before b.0 x c) at
          (subst (λ x. Covers site.text.now site.high before x place c) (sym was.0) covers)) in
          (d.0, subst (λ x. Does site.text.now t x q c d.0) (sym at) d.1, d.2);
      complete = λ c q d covers does fits.
          all.complete held place c q d ((put held place).1 (inr (refl, one_has place))) covers does fits;
      inside = all.inside;
    }

-- WHERE NOTHING IS TAKEN FROM BEFORE

pub framed_itself : (own others : List ℕ) (held : List Held) (inside : Rows)
    → ((n : ℕ) → Contains others n → Contains own n) → IsFramed own others held inside inside
framed_itself own others held inside all = (
  λ h p f. (h, f, λ n at. inl (all n at, refl)),
  λ g p f. (g, f, λ n at. inl (all n at, refl)),
)

-- GROUPS THAT STAND IN A TREE

pub set_push : (t : Tree) (numbers own : List ℕ) (k : ℕ) → k < length numbers → HasSetIn t (take k numbers) own
    → HasSetIn t (take (k + 1) numbers) (own ++ get_or numbers k 0 ∷ [])
set_push t numbers own k low h = (
  λ n at. (taken numbers k low n).1 (elim (Contains-push_cases own (get_or numbers k 0) n at) [
    | inl was ↦ inl (h.0 n was)
    | inr is ↦ inr is
  ]),
  λ n at. elim ((taken numbers k low n).0 at) [
    | inl before ↦ elim (h.1 n before) [
      | inl was ↦ inl (Contains-append_left own (get_or numbers k 0 ∷ []) n was)
      | inr unset ↦ inr unset
    ]
    | inr is ↦ inl (subst (Contains (own ++ get_or numbers k 0 ∷ [])) is (Contains-push own (get_or numbers k 0)))
  ],
)

pub set_skip : (t : Tree) (numbers own : List ℕ) (k : ℕ) → k < length numbers
    → sets_one t (get_or numbers k 0 ∷ []) ≡ false → HasSetIn t (take k numbers) own
    → HasSetIn t (take (k + 1) numbers) own
set_skip t numbers own k low not h = (
  λ n at. (taken numbers k low n).1 (inl (h.0 n at)),
  λ n at. elim ((taken numbers k low n).0 at) [
    | inl before ↦ h.1 n before
    | inr is ↦ inr (subst (λ m. sets_one t (m ∷ []) ≡ false) is not)
  ],
)

-- A LIST, AND ROWS, WITH WHAT OTHER GROUPS HELD

pub among : (numbers : List ℕ) (n : ℕ) → list_any (λ y. y == n) numbers ≡ true → Contains numbers n
among numbers n is = Contains-from_any {eq = λ x y. y == x} (λ x y e. sym (eqb-true y x e)) n numbers is

abbrev pub chosen : List ℕ → List Held → List Held → ℕ → Option Cap
chosen own held inside n = if list_any (λ y. y == n) own then part_in inside n else part_in held n

pub framed_by : (own others : List ℕ) (held inside list : List Held) → IsMade (chosen own held inside) others list
    → IsFramedBy own others held inside list
framed_by own others held inside list made n at = each (list_any (λ y. y == n) own) refl (made.all n at)
  where
    each : (b : Bool) → list_any (λ y. y == n) own ≡ b
        → part_in list n ≡ (if b then part_in inside n else part_in held n)
        → (Contains own n × (part_in list n ≡ part_in inside n))
        ⊎ ((Contains own n → ⊥) × (part_in list n ≡ part_in held n))
    each true is same = inl (among own n is, same)
    each false is same = inr (λ has. passes_none own n n is has refl, same)

module _ (own others : List ℕ) (held : List Held) where
  abbrev pub Frames : List Held → ℕ → States
  Frames g p h q = (q ≡ p) × IsFramedBy own others held g h

  abbrev pub FramesFully : List Held → ℕ → States → Type 0
  FramesFully g p F = (h : List Held) × F h p × IsFramedBy own others held g h

  abbrev pub FramedSoFar : States → Rows → Type 0
  FramedSoFar S found = Gone Never Frames FramesFully S (HasState found)

  pub framed_first : (rows : List Row) (found : Rows) → found.rows.items ≡ [] → FramedSoFar (Taken rows 0) found
  framed_first rows found is =
      gone_none Never Frames FramesFully (Taken rows 0) (HasState found) (taken_none rows) (no_state found is)

  pub framed_more : (g h : List Held) (places : List ℕ) (S T : States) (old new : Rows)
      → IsFramedBy own others held g h → Grows S g places T → IsPut old h places new → FramedSoFar S old
      → FramedSoFar T new
  framed_more g h places S T old new framed grows put gone =
      gone_put Never Frames FramesFully S T old new g h places places
      (λ x p F G more whole. (whole.0, more whole.0 p whole.1, whole.2)) grows put (λ q at. (q, at, (refl, framed)))
      (λ p at. (h, (put h p).1 (inr (refl, at)), framed)) gone

  pub framed_last : (inside found : Rows) (rows : List Row) (k : ℕ) → rows ≡ inside.rows.items → length rows ≤ k
      → FramedSoFar (Taken rows k) found → IsFramed own others held inside found
  framed_last inside found rows k same past gone = (
    λ h p f. elim (gone.sound h p f) [
      | inl never ↦ absurd never
      | inr (g, q, at, (is, framed)) ↦
          (g, subst (HasState inside g) (sym is) (of_state inside rows k same past g q at), framed)
    ],
    λ g p at. gone.whole g p (state_of inside rows k same past g p at),
  )

-- Rows whose lists are kept for some groups, row by row; and those behind a group that is closed, place by place.
-- `KeptSoFar` and `ClosedSoFar` say it of the rows and places gone through so far, and what was there before stays.
-- The hard one is `closed_last`: behind all rows each state found stands where the one inside stood from which it comes.
use Rattle.std.proofs.Common.{◌≡◌, ◌⊎◌, ℕ, ◌≤◌, List, [], ◌∷◌, length, refl, sym, subst, inl, inr}
use Rattle.std.specs.List.{Contains}
use Rattle.std.proofs.lemmas.List.{take_all}
use Rattle.ere_reach.specs.declared.held.Held.{Held}
use Rattle.ere_reach.specs.declared.row.Row.{Row}
use Rattle.ere_reach.specs.declared.rows.Rows.{Rows}
use Rattle.ere_reach.specs.declared.site.Site.{Site}
use Rattle.ere_reach.specs.Held.{IsKept}
use Rattle.ere_reach.specs.Leads.{IsClosed, KeepsRows, PutsClosed}
use Rattle.ere_reach.specs.Rows.{HasAt, HasState, IsPut, States}
use Rattle.ere_reach.proofs.StepLemmas.{Never, no_state}
use Rattle.ere_reach.proofs.TakenLemmas.{Gone, Grows, Taken, TakenIn, gone_none, gone_put, gone_put_one, gone_skip_one, one_has, taken_all, taken_none, taken_within}

pub state_of : (from : Rows) (rows : List Row) (k : ℕ) → rows ≡ from.rows.items → length rows ≤ k → (h : List Held)
    (p : ℕ) → HasState from h p → Taken rows k h p
state_of from rows k same past h p at = taken_all rows k past h p
    (subst (λ (all : List Row). HasAt (λ row. row.places.items) all h p) (sym same) at)

pub of_state : (from : Rows) (rows : List Row) (k : ℕ) → rows ≡ from.rows.items → length rows ≤ k → (h : List Held)
    (p : ℕ) → Taken rows k h p → HasState from h p
of_state from rows k same past h p at = subst (λ (all : List Row). HasAt (λ row. row.places.items) all h p) same
    (taken_within rows k past h p at)

-- LISTS THAT ARE KEPT

abbrev pub Keeps : List ℕ → List Held → ℕ → States
Keeps live g p h q = (q ≡ p) × IsKept live g h

abbrev pub KeepsFully : List ℕ → List Held → ℕ → States → Type 0
KeepsFully live g p F = (h : List Held) × F h p × IsKept live g h

abbrev pub KeptSoFar : List ℕ → States → Rows → Type 0
KeptSoFar live S found = Gone Never (Keeps live) (KeepsFully live) S (HasState found)

pub kept_first : (live : List ℕ) (rows : List Row) (found : Rows) → found.rows.items ≡ []
    → KeptSoFar live (Taken rows 0) found
kept_first live rows found is =
    gone_none Never (Keeps live) (KeepsFully live) (Taken rows 0) (HasState found) (taken_none rows) (no_state found is)

pub kept_more : (live : List ℕ) (g h : List Held) (places : List ℕ) (S T : States) (old new : Rows) → IsKept live g h
    → Grows S g places T → IsPut old h places new → KeptSoFar live S old → KeptSoFar live T new
kept_more live g h places S T old new kept grows put gone =
    gone_put Never (Keeps live) (KeepsFully live) S T old new g h places places
    (λ x p F G more whole. (whole.0, more whole.0 p whole.1, whole.2)) grows put (λ q at. (q, at, (refl, kept)))
    (λ p at. (h, (put h p).1 (inr (refl, at)), kept)) gone

pub kept_last : (site : Site) (live : List ℕ) (from found : Rows) (rows : List Row) (k : ℕ)
    → rows ≡ from.rows.items → length rows ≤ k → KeptSoFar live (Taken rows k) found → KeepsRows site live from found
kept_last site live from found rows k same past gone = (
  λ h p f. elim (gone.sound h p f) [
    | inl never ↦ absurd never
    | inr (g, q, at, (is, kept)) ↦
        (g, subst (HasState from g) (sym is) (of_state from rows k same past g q at), kept)
  ],
  λ g p at. gone.whole g p (state_of from rows k same past g p at),
)

-- A GROUP THAT IS CLOSED

abbrev pub Closed : Site → ℕ → ℕ → List ℕ → List Held → ℕ → States
Closed site number from live g p h q = (q ≡ p) × (from ≤ p) × (p ≤ site.high) × IsClosed site number from live g p h

abbrev pub ClosedFully : Site → ℕ → ℕ → List ℕ → List Held → ℕ → States → Type 0
ClosedFully site number from live g p F =
    from ≤ p → p ≤ site.high → (h : List Held) × F h p × IsClosed site number from live g p h

abbrev pub ClosedSoFar : Site → ℕ → ℕ → List ℕ → Rows → States → Rows → Type 0
ClosedSoFar site number from live first S found =
    Gone (HasState first) (Closed site number from live) (ClosedFully site number from live) S (HasState found)

-- the same from one list with all of these places
pub record PutsEnds (site : Site) (number from : ℕ) (live : List ℕ) (g : List Held) (ends : List ℕ)
    (old new : Rows) : Type 0 where
  pub kept : (h : List Held) (q : ℕ) → HasState old h q → HasState new h q
  pub put : (q : ℕ) → Contains ends q → ClosedFully site number from live g q (HasState new)
  pub alone : (h : List Held) (q : ℕ) → HasState new h q
      → HasState old h q ⊎ (Contains ends q × (from ≤ q) × (q ≤ site.high) × IsClosed site number from live g q h)

module _ (site : Site) (number from : ℕ) (live : List ℕ) (first : Rows) where
  pub closed_first : (rows : List Row) → ClosedSoFar site number from live first (Taken rows 0) first
  closed_first rows =
      gone_none (HasState first) (Closed site number from live) (ClosedFully site number from live) (Taken rows 0)
      (HasState first) (taken_none rows) (λ h p. (λ x. x, λ x. x))

  pub closed_more : (g h : List Held) (p : ℕ) (S T : States) (old new : Rows) → from ≤ p → p ≤ site.high
      → IsClosed site number from live g p h → Grows S g (p ∷ []) T → IsPut old h (p ∷ []) new
      → ClosedSoFar site number from live first S old → ClosedSoFar site number from live first T new
  closed_more g h p S T old new on fits closed grows put gone =
      gone_put_one (HasState first) (Closed site number from live) (ClosedFully site number from live) S T old new g h p
      p (λ x b F G more whole low high. let w = whole low high in (w.0, more w.0 b w.1, w.2)) grows put
      (refl, on, fits, closed) (λ low high. (h, (put h p).1 (inr (refl, one_has p)), closed)) gone

  pub closed_skip : (g : List Held) (p : ℕ) (S T : States) (found : Rows) → (from ≤ p → p ≤ site.high → ⊥)
      → Grows S g (p ∷ []) T → ClosedSoFar site number from live first S found
      → ClosedSoFar site number from live first T found
  closed_skip g p S T found out grows gone =
      gone_skip_one (HasState first) (Closed site number from live) (ClosedFully site number from live) S T
      (HasState found) g p (λ x b F G more whole low high. let w = whole low high in (w.0, more w.0 b w.1, w.2)) grows
      (λ low high. absurd (out low high)) gone

  pub closed_ends : (g : List Held) (ends : List ℕ) (j : ℕ) (found : Rows) → length ends ≤ j
      → ClosedSoFar site number from live first (TakenIn [] 0 g ends j) found
      → PutsEnds site number from live g ends first found
  closed_ends g ends j found past gone = record {
    kept = gone.kept;
    put = λ q at. gone.whole g q (inr (refl, subst (λ (xs : List ℕ). Contains xs q) (sym (take_all j ends past)) at));
    alone = λ h q f. elim (gone.sound h q f) [
      | inl was ↦ inl was
      | inr (k, p, at, (is, on, fits, closed)) ↦ elim at [
        | inl none ↦ absurd (taken_none [] k p none)
        | inr (same, has) ↦ inr (
          subst (Contains ends) (sym is) (subst (λ (xs : List ℕ). Contains xs p) (take_all j ends past) has),
          subst (λ n. from ≤ n) (sym is) on,
          subst (λ n. n ≤ site.high) (sym is) fits,
          subst (λ (x : List Held). IsClosed site number from live x q h) same
              (subst (λ n. IsClosed site number from live k n h) (sym is) closed),
        )
      ]
    ];
  }

  pub closed_last : (inner found : Rows) (rows : List Row) (k : ℕ) → rows ≡ inner.rows.items → length rows ≤ k
      → ClosedSoFar site number from live first (Taken rows k) found
      → PutsClosed site number from live inner first found
  closed_last inner found rows k same past gone = record {
    kept = gone.kept;
    put = λ g q at. gone.whole g q (state_of inner rows k same past g q at);
    alone = λ h q f. elim (gone.sound h q f) [
      | inl was ↦ inl was
      | inr (g, p, at, (is, on, fits, closed)) ↦ inr (
        g,
        subst (HasState inner g) (sym is) (of_state inner rows k same past g p at),
        subst (λ n. from ≤ n) (sym is) on,
        subst (λ n. n ≤ site.high) (sym is) fits,
        subst (λ n. IsClosed site number from live g n h) (sym is) closed,
      )
    ];
  }

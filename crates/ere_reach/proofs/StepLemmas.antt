-- Steps from one state to others, whatever is told before of the groups that are read, and rows to which they lead.
-- A tree without references that sets no group that is read leaves what is told of these groups as it was.
-- The hard one is `untouched`: what a derivation leaves as it was, isn't surely set either, over all forms of a tree.
use Rattle.std.proofs.Common.{◌≡◌, ◌≢◌, ℕ, zero, suc, ◌==◌, ◌&&◌, ◌||◌, ◌<◌, ◌≤◌, Bool, true, false, nat_lt, Some, List, [], ◌∷◌, length, get_or, refl, sym, ap, ◌∙◌, subst, inl, inr, arith, eq-eqb, ne_eqb, true≢false}
use Rattle.std.specs.Prelude.{Vec}
use Rattle.std.specs.declared.alloc.Global.{Global}
use Rattle.std.specs.FinMap.{get}
use Rattle.std.specs.List.{Contains, list_any}
use Rattle.std.proofs.lemmas.List.Elements.{Contains-get_or}
use Rattle.std.proofs.lemmas.Option.{none-some}
use Rattle.ere_captures.proofs.KeepLemmas.{get_other}
use Rattle.ere_places.proofs.SpanLemmas.{spans_from}
use Rattle.ere_places.specs.Places.{Finds, Leads, LeadsInside}
use Rattle.ere_places.specs.declared.window.Direction.{Direction}
use Rattle.ere_places.specs.declared.window.Direction.TheVariants.{Ahead}
use Rattle.ere_places.specs.declared.window.Window.{Window}
use Rattle.ere_tree.proofs.CapturesLemmas.{some_same}
use Rattle.ere_tree.proofs.DerivationLemmas.{is_part}
use Rattle.ere_tree.proofs.FreeLemmas.{no_left, no_right}
use Rattle.ere_tree.specs.Captures.{Captures}
use Rattle.ere_tree.specs.Derivation.{Way, Ways, leaf, parts, members, chosen, inside, done, next, Derives, DerivesAll, DerivesEach, tree_at}
use Rattle.ere_tree.specs.Shape.{has_refs}
use Rattle.ere_tree.specs.Tree.{Tree, Trees, empty, plain, set, line_start, line_end, cat, alt, repeat, group, back, none, then}
use Rattle.ere_reach.specs.declared.held.Held.{Held}
use Rattle.ere_reach.specs.declared.row.Row.{Row}
use Rattle.ere_reach.specs.declared.rows.Rows.{Rows}
use Rattle.ere_reach.specs.declared.site.Site.{Site}
use Rattle.ere_reach.specs.Held.{Covers, IsKept}
use Rattle.ere_reach.specs.Leads.{Step, Does, Goes, LeadsBy}
use Rattle.ere_reach.specs.Live.{HasRead, reads, surely_sets, one_surely_sets, all_surely_set}
use Rattle.ere_reach.specs.Moving.{sets_one, one_sets_one}
use Rattle.ere_reach.specs.Rows.{AreInside, AreSame, HasAt, HasState, IsPut, States}
use Rattle.ere_reach.proofs.CoversLemmas.{covers_on}
use Rattle.ere_reach.proofs.TakenLemmas.{Gone, Grows, Stays, Taken, gone_none, gone_put, one_is, taken_all, taken_none, taken_within}

-- there are none; from a state to one in the window; and what is asked for of a state
abbrev pub Never : States
Never h q = ⊥

abbrev pub GoesBy : Site → Step → ((ℕ → Type 0) → ℕ → Type 0) → List ℕ → List Held → ℕ → States
GoesBy site D read behind g p h q =
    (site.low ≤ q) × (q ≤ site.high)
    × ((before : List ℕ) → HasRead read behind before → Goes site D before behind g p h q)

abbrev pub FullBy : Site → Step → ((ℕ → Type 0) → ℕ → Type 0) → List ℕ → List Held → ℕ → States → Type 0
FullBy site D read behind g p F =
    (before : List ℕ) → HasRead read behind before → (c : Captures) (q : ℕ) (d : Captures)
    → Covers site.text.now site.high before g p c → D p q c d → q ≤ site.high
    → (h : List Held) × F h q × Covers site.text.now site.high behind h q d

-- so far these are the states to which a step leads from those
abbrev pub GoneBy : Site → Step → ((ℕ → Type 0) → ℕ → Type 0) → List ℕ → States → Rows → Type 0
GoneBy site D read behind S found =
    Gone Never (GoesBy site D read behind) (FullBy site D read behind) S (HasState found)

pub full_stays : (site : Site) (D : Step) (read : (ℕ → Type 0) → ℕ → Type 0) (behind : List ℕ)
    → Stays (FullBy site D read behind)
full_stays site D read behind g p F G more whole before has c q d covers does low =
    let f = whole before has c q d covers does low in (f.0, more f.0 q f.1, f.2)

pub no_state : (found : Rows) → found.rows.items ≡ [] → AreSame (HasState found) Never
no_state found is h p = (λ (row, has, same, at). absurd (omega (arith, has.1, ap length is)), λ x. absurd x)

-- before the first row, and behind the last one
pub gone_first : (site : Site) (D : Step) (read : (ℕ → Type 0) → ℕ → Type 0) (behind : List ℕ) (rows : List Row)
    (found : Rows) → found.rows.items ≡ [] → GoneBy site D read behind (Taken rows 0) found
gone_first site D read behind rows found is =
    gone_none Never (GoesBy site D read behind) (FullBy site D read behind) (Taken rows 0) (HasState found)
    (taken_none rows) (no_state found is)

pub gone_last : (site : Site) (D : Step) (read : (ℕ → Type 0) → ℕ → Type 0) (behind : List ℕ) (from found : Rows)
    (rows : List Row) (k : ℕ) → rows ≡ from.rows.items → length rows ≤ k
    → GoneBy site D read behind (Taken rows k) found → LeadsBy site D read behind from found
gone_last site D read behind from found rows k same past gone before has = record {
  sound = λ h q f. elim (gone.sound h q f) [
    | inl never ↦ absurd never
    | inr (g, p, at, step) ↦ (
      g,
      p,
      subst (λ (all : List Row). HasAt (λ row. row.places.items) all g p) same (taken_within rows k past g p at),
      step.2 before has,
    )
  ];
  complete = λ g p c q d at covers does low.
      gone.whole g p (taken_all rows k past g p
      (subst (λ (all : List Row). HasAt (λ row. row.places.items) all g p) (sym same) at)) before has c q d covers does
      low;
  inside = λ h q f. elim (gone.sound h q f) [
    | inl never ↦ absurd never
    | inr (g, p, at, step) ↦ (step.0, step.1)
  ];
}

-- A TREE THAT SETS NO GROUP THAT IS READ

pub passes_none : (live : List ℕ) (number n : ℕ) → list_any (λ y. y == number) live ≡ false → Contains live n → number ≢ n
passes_none [] number n unset (k, low, at) = absurd (omega (arith, low))
passes_none (x ∷ live) number n unset (zero, low, at) = λ e.
    true≢false (sym (eq-eqb x number (at ∙ sym e)) ∙ no_left (x == number) (list_any (λ y. y == number) live) unset)
passes_none (x ∷ live) number n unset (suc k, low, at) =
    passes_none live number n (no_right (x == number) (list_any (λ y. y == number) live) unset) (k, omega (arith, low), at)

-- one of some trees
none_at : (ts : Trees) (k : ℕ) (t : Tree) (live : List ℕ) → tree_at ts k ≡ Some t → one_sets_one ts live ≡ false
    → sets_one t live ≡ false
none_at none k t live at unset = absurd (none-some t at)
none_at (then u ts) zero t live at unset =
    ap (λ x. sets_one x live) (sym (some_same u t at)) ∙ no_left (sets_one u live) (one_sets_one ts live) unset
none_at (then u ts) (suc k) t live at unset =
    none_at ts k t live at (no_right (sets_one u live) (one_sets_one ts live) unset)

and_not : (a b : Bool) → b ≡ false → (a && b) ≡ false
and_not true b e = e
and_not false b e = refl

not_all : (ts : Trees) (k : ℕ) (t : Tree) (n : ℕ) → tree_at ts k ≡ Some t → surely_sets t n ≡ false
    → all_surely_set ts n ≡ false
not_all none k t n at unset = absurd (none-some t at)
not_all (then u ts) zero t n at unset =
    ap (λ b. b && all_surely_set ts n) (ap (λ x. surely_sets x n) (some_same u t at) ∙ unset)
not_all (then u ts) (suc k) t n at unset =
    and_not (surely_sets u n) (all_surely_set ts n) (not_all ts k t n at unset)

or_not : (a b : Bool) → a ≡ false → b ≡ false → (a || b) ≡ false
or_not a b e f = ap (λ x. x || b) e ∙ f

module _ (s : List ℕ) (live : List ℕ) (n : ℕ) (read : Contains live n) where
  mutual
    pub untouched : (t : Tree) (w : Way) (i j : ℕ) (c d : Captures) → sets_one t live ≡ false → Derives s t w i j c d
        → (get d n ≡ get c n) × (surely_sets t n ≡ false)
    untouched empty leaf i j c d unset h = (ap (λ x. get x n) h.2, refl)
    untouched (plain bytes) leaf i j c d unset h = (ap (λ x. get x n) h.2, refl)
    untouched (set bytes) leaf i j c d unset h = (ap (λ x. get x n) h.3, refl)
    untouched line_start leaf i j c d unset h = (ap (λ x. get x n) h.2, refl)
    untouched line_end leaf i j c d unset h = (ap (λ x. get x n) h.2, refl)
    untouched (cat ts) (parts ws) i j c d unset h = all_untouched ts ws i j c d unset h
    untouched (alt ts) (chosen k w) i j c d unset h =
        let one = untouched h.0 w i j c d (none_at ts k h.0 live h.1 unset) h.2 in
        (one.0, not_all ts k h.0 n h.1 one.1)
    untouched (repeat t zero most) (members ws) i j c d unset h = (stays t zero ws i j c d unset h.1, refl)
    untouched (repeat t (suc least) most) (members done) i j c d unset h = absurd (omega (arith, h.0.0))
    untouched (repeat t (suc least) most) (members (next k w ws)) i j c d unset h =
        let one = untouched t w i k c h.1.0 unset h.1.1 in
        (stays t least ws k j h.1.0 d unset h.1.2 ∙ one.0, and_not (nat_lt 0 (suc least)) (surely_sets t n) one.1)
    untouched (group number t) (inside w) i j c d unset h =
        let any = list_any (λ y. y == number) live in
        let other = passes_none live number n (no_left any (sets_one t live) unset) read in
        let one = untouched t w i j c h.0 (no_right any (sets_one t live) unset) h.1 in (
          ap (λ x. get x n) h.2 ∙ get_other h.0 number (i, j) n (λ e. other (sym e)) ∙ one.0,
          or_not (number == n) (surely_sets t n) (ne_eqb number n other) one.1,
        )
    untouched (back number fold) leaf i j c d unset h = (ap (λ x. get x n) h.4, refl)
    untouched t w i j c d unset h = absurd h

    all_untouched : (ts : Trees) (ws : Ways) (i j : ℕ) (c d : Captures) → one_sets_one ts live ≡ false
        → DerivesAll s ts ws i j c d → (get d n ≡ get c n) × (one_surely_sets ts n ≡ false)
    all_untouched none done i j c d unset h = (ap (λ x. get x n) h.2, refl)
    all_untouched (then t ts) (next k w ws) i j c d unset h =
        let one = untouched t w i k c h.0 (no_left (sets_one t live) (one_sets_one ts live) unset) h.1 in
        let others = all_untouched ts ws k j h.0 d (no_right (sets_one t live) (one_sets_one ts live) unset) h.2 in
        (others.0 ∙ one.0, or_not (surely_sets t n) (one_surely_sets ts n) one.1 others.1)
    all_untouched ts ws i j c d unset h = absurd h

    stays : (t : Tree) (least : ℕ) (ws : Ways) (i j : ℕ) (c d : Captures) → sets_one t live ≡ false
        → DerivesEach s t least ws i j c d → get d n ≡ get c n
    stays t least done i j c d unset h = ap (λ x. get x n) h.2
    stays t zero (next k w ws) i j c d unset h =
        stays t zero ws k j h.0 d unset h.3 ∙ (untouched t w i k c h.0 unset h.1).0
    stays t (suc least) (next k w ws) i j c d unset h =
        stays t least ws k j h.0 d unset h.2 ∙ (untouched t w i k c h.0 unset h.1).0

-- so a list that is kept covers what is derived
free_on : (site : Site) (t : Tree) (live before : List ℕ) (g h : List Held) (w : Way) (p q : ℕ) (c d : Captures)
    → sets_one t live ≡ false → IsKept live g h → HasRead (reads t) live before
    → Covers site.text.now site.high before g p c → Derives site.text.now t w p q c d
    → Covers site.text.now site.high live h q d
free_on site t live before g h w p q c d unset kept has covers derives =
    let same = λ (n : ℕ) (read : Contains live n). untouched site.text.now live n read t w p q c d unset derives in
    covers_on site.text.now site.high before live g h p q c d (is_part site.text.now t w p q c d derives).0
    (λ n read. has n (inr (read, (same n read).1))) kept (λ n read. (same n read).0) covers

-- a row of places is gone on from at once
pub free_more : (site : Site) (t : Tree) (live : List ℕ) → has_refs t ≡ false → sets_one t live ≡ false
    → (window : Window) → window.low ≡ site.low → window.high ≡ site.high → window.direction ≡ Ahead
    → (g h : List Held) (places : List ℕ) (ends : Vec ℕ Global) (S T : States) (old new : Rows)
    → ((p : ℕ) → Contains places p → site.low ≤ p) → IsKept live g h → Finds site.text.now t window places ends
    → Grows S g places T → IsPut old h ends.items new
    → GoneBy site (Does site.text.now t) (reads t) live S old → GoneBy site (Does site.text.now t) (reads t) live T new
free_more site t live refs unset window low high ahead g h places ends S T old new in_low kept finds grows put gone =
    gone_put Never (GoesBy site (Does site.text.now t) (reads t) live) (FullBy site (Does site.text.now t) (reads t) live)
    S T old new g h places ends.items (full_stays site (Does site.text.now t) (reads t) live) grows put
    (λ q at. let r = (finds q).0 at in (r.0, r.1, goes r.0 q r.2)) whole gone
  where
    goes : (p q : ℕ) → LeadsInside site.text.now t window p q → GoesBy site (Does site.text.now t) (reads t) live g p h q
    goes p q leads = (
      omega (arith, leads.1.0, low),
      omega (arith, leads.1.1, high),
      λ before has c covers.
          let d = spans_from site.text.now t p q refs (subst (λ (x : Direction). Leads site.text.now t x p q) ahead leads.0) c in
          (d.1, (d.0, d.2), free_on site t live before g h d.0 p q c d.1 unset kept has covers d.2),
    )

    whole : (p : ℕ) → Contains places p → FullBy site (Does site.text.now t) (reads t) live g p (HasState new)
    whole p at before has c q d covers does fits =
        let on = is_part site.text.now t does.0 p q c d does.1 in
        let leads : Leads site.text.now t window.direction p q =
        subst (λ (x : Direction). Leads site.text.now t x p q) (sym ahead) (does.0, c, d, does.1) in (
          h,
          (put h q).1 (inr (
            refl,
            (finds q).1 (p, at, (leads, (omega (arith, in_low p at, on.0, low), omega (arith, fits, high)))),
          )),
          free_on site t live before g h does.0 p q c d unset kept has covers does.1,
        )

-- places of a row lie in the window
pub row_inside : (site : Site) (from : Rows) (rows : List Row) (k : ℕ) (row : Row) → rows ≡ from.rows.items
    → AreInside site.low site.high from → k < length rows → row ≡ get_or rows k row → (p : ℕ)
    → Contains row.places.items p → (site.low ≤ p) × (p ≤ site.high)
row_inside site from rows k row same lies low is p at =
    lies row.held.items p (row, subst (λ (all : List Row). Contains all row) same (k, low, sym is), refl, at)

pub place_inside : (site : Site) (from : Rows) (rows : List Row) (k : ℕ) (row : Row) (places : List ℕ) (j : ℕ)
    → rows ≡ from.rows.items → AreInside site.low site.high from → k < length rows → row ≡ get_or rows k row
    → places ≡ row.places.items → j < length places
    → (site.low ≤ get_or places j 0) × (get_or places j 0 ≤ site.high)
place_inside site from rows k row places j same lies low is all within =
    row_inside site from rows k row same lies low is (get_or places j 0)
    (subst (λ (xs : List ℕ). Contains xs (get_or places j 0)) all (Contains-get_or places j 0 within))

-- and so does a place that is put into empty rows
pub one_inside : (site : Site) (g : List Held) (p : ℕ) (start one : Rows) → start.rows.items ≡ []
    → IsPut start g (p ∷ []) one → (site.low ≤ p) × (p ≤ site.high) → AreInside site.low site.high one
one_inside site g p start one is put lies h q at = elim ((put h q).0 at) [
  | inl never ↦ absurd ((no_state start is h q).0 never)
  | inr (same, here) ↦ subst (λ n. (site.low ≤ n) × (n ≤ site.high)) (one_is p q here) lies
]

-- The rounds in which members of a repeat that aren't empty are added, and one such member, told for all rows at once or
-- place by place. A round holds what up to so many members lead to, and what a member leads to from what was gone on from.
-- The hard one is `round_more`: what all members behind so many lead to is covered by what is there and what is new.
use Rattle.std.proofs.Common.{◌≡◌, ℕ, zero, suc, ◌+◌, ◌<◌, ◌≤◌, true, false, List, [], ◌∷◌, length, take, drop, refl, sym, subst, inl, inr, arith}
use Rattle.std.specs.Prelude.{◌⊎◌}
use Rattle.std.specs.List.{Contains}
use Rattle.std.proofs.lemmas.Bool.{cases_lt}
use Rattle.std.proofs.lemmas.List.{take-append-drop}
use Rattle.std.proofs.lemmas.List.Elements.{Contains-append_cases}
use Rattle.ere_places.proofs.ReachLemmas.{in_front}
use Rattle.ere_tree.proofs.DerivationLemmas.{is_part}
use Rattle.ere_tree.specs.Captures.{Captures}
use Rattle.ere_tree.specs.Derivation.{Ways, done, next, DerivesEach, count_of}
use Rattle.ere_tree.specs.Tree.{Tree}
use Rattle.ere_reach.specs.declared.held.Held.{Held}
use Rattle.ere_reach.specs.declared.row.Row.{Row}
use Rattle.ere_reach.specs.declared.rows.Rows.{Rows}
use Rattle.ere_reach.specs.declared.site.Site.{Site}
use Rattle.ere_reach.specs.Held.{Covers, Tells, part_in}
use Rattle.ere_reach.specs.Leads.{Step, Does, DoesUpTo, DoesFurther, DoesOrStays, Goes, IsSound, IsComplete, Leads, LeadsOver, LeadsFurther, PutsBeyond, FitsText}
use Rattle.ere_reach.specs.Live.{HasRead, reads}
use Rattle.ere_reach.specs.Moving.{has_byte, sets_one}
use Rattle.ere_reach.specs.Rows.{States, AreInside, AreSame, HasState, IsDone, IsFresh, IsJoined, IsPut, KeepsDone}
use Rattle.ere_reach.proofs.BeforeLemmas.{over_inside}
use Rattle.ere_reach.proofs.KeepsLemmas.{of_state, state_of}
use Rattle.ere_reach.proofs.LeadsLemmas.{Both, HasAll, sound_then, sound_as, inside_joined, leads_same, same_itself, same_joined}
use Rattle.ere_reach.proofs.MovesLemmas.{byte_moves}
use Rattle.ere_reach.proofs.StepLemmas.{FullBy, GoneBy, Never, full_stays, gone_last, no_state, untouched}
use Rattle.ere_reach.proofs.TakenLemmas.{Gone, Grows, Taken, gone_more, gone_none, gone_put_one, gone_skip_one, one_has, one_is, taken_none}

-- MEMBERS ONE BEHIND THE OTHER

-- so many steps; up to so many members that aren't empty
abbrev pub Chain : Step → ℕ → Step
Chain D zero p q c d = (q ≡ p) × (d ≡ c)
Chain D (suc n) p q c d = (m : ℕ) × (e : Captures) × Chain D n p m c e × D m q e d

abbrev pub UpTo : List ℕ → Tree → ℕ → Step
UpTo s t most p q c d = (n : ℕ) × (n ≤ most) × Chain (DoesFurther s t) n p q c d

chain_each : (s : List ℕ) (t : Tree) (n : ℕ) (vs : Ways) (p m q : ℕ) (c e d : Captures)
    → Chain (DoesFurther s t) n p m c e → DerivesEach s t zero vs m q e d
    → (ws : Ways) × (count_of ws ≡ n + count_of vs) × DerivesEach s t zero ws p q c d
chain_each s t zero vs p m q c e d (here, kept) h =
    (vs, omega arith, subst (λ x. DerivesEach s t zero vs p q x d) kept (subst (λ r. DerivesEach s t zero vs r q e d) here h))
chain_each s t (suc n) vs p m q c e d (k, f, init, (low, (w, one))) h =
    let all = chain_each s t n (next m w vs) p k q c f d init (e, one, low, h) in (all.0, omega (arith, all.1), all.2)

each_chain : (s : List ℕ) (t : Tree) (ws : Ways) (n p m q : ℕ) (c e d : Captures)
    → Chain (DoesFurther s t) n p m c e → DerivesEach s t zero ws m q e d
    → (k : ℕ) × (k ≡ n + count_of ws) × Chain (DoesFurther s t) k p q c d
each_chain s t done n p m q c e d chain h =
    let here = subst (λ r. Chain (DoesFurther s t) n p r c e) (sym h.0) chain in
    (n, omega arith, subst (λ x. Chain (DoesFurther s t) n p q c x) (sym h.2) here)
each_chain s t (next k w ws) n p m q c e d chain h =
    let all = each_chain s t ws (suc n) p k q c h.0 d (m, e, chain, (h.2, (w, h.1))) h.3 in (all.0, omega (arith, all.1), all.2)

up_to_then : (s : List ℕ) (t : Tree) (r p q : ℕ) (c d : Captures) → Both (UpTo s t r) (DoesOrStays s t) p q c d
    → UpTo s t (r + 1) p q c d
up_to_then s t r p q c d (m, e, (n, few, chain), inl further) = (suc n, omega (arith, few), (m, e, chain, further))
up_to_then s t r p q c d (m, e, (n, few, chain), inr (here, kept)) =
    let there = subst (λ k. Chain (DoesFurther s t) n p k c e) (sym here) chain in
    (n, omega (arith, few), subst (λ x. Chain (DoesFurther s t) n p q c x) (sym kept) there)

-- ROUNDS

-- whatever a step leads to from some states is covered by rows
abbrev pub Follows : Site → Step → List ℕ → List ℕ → States → Rows → Type 0
Follows site D before behind P found =
    (g : List Held) (p : ℕ) (c : Captures) (q : ℕ) (d : Captures) → P g p → Covers site.text.now site.high before g p c
    → D p q c d → q ≤ site.high → (h : List Held) × HasState found h q × Covers site.text.now site.high behind h q d

-- after so many rounds
pub record Round (site : Site) (t : Tree) (live : List ℕ) (rows all : Rows) (rounds : ℕ) : Type 0 where
  pub sound : IsSound site (UpTo site.text.now t rounds) live live rows all
  pub front : IsComplete site (UpTo site.text.now t rounds) live live rows all
  pub closed : Follows site (DoesFurther site.text.now t) live live (IsDone all) all
  pub inside : AreInside site.low site.high all

-- a state covers what is the same
pub stay : (site : Site) (live : List ℕ) (all : Rows) (g : List Held) (p q : ℕ) (c d : Captures) → HasState all g p
    → Covers site.text.now site.high live g p c → (q ≡ p) × (d ≡ c)
    → (h : List Held) × HasState all h q × Covers site.text.now site.high live h q d
stay site live all g p q c d has covers (here, kept) =
    let told = subst (Covers site.text.now site.high live g p) (sym kept) covers in
    (g, subst (HasState all g) (sym here) has, subst (λ r. Covers site.text.now site.high live g r d) (sym here) told)

pub round_first : (site : Site) (t : Tree) (live : List ℕ) (rows start all : Rows) → AreInside site.low site.high rows
    → start.rows.items ≡ [] → IsJoined start rows all → KeepsDone start all → Round site t live rows all 0
round_first site t live rows start all inside empty joined keeps = record {
  sound = λ h q has. (h, q, (same h q).0 has, λ c covers. (c, (zero, omega arith, (refl, refl)), covers));
  front = λ g p c q d has covers (n, few, chain) low. none n g p c q d has covers few chain;
  closed = λ g p c q d gone covers step low.
      let was = (keeps g p).0 gone in
      let few = subst (λ (xs : List Row). Contains xs was.0) empty was.1 in absurd (omega (arith, few.1));
  inside = λ h p has. inside h p ((same h p).0 has);
}
  where
    same : AreSame (HasState all) (HasState rows)
    same = same_joined start rows all (λ h p. (no_state start empty h p).0) joined

    none : (n : ℕ) (g : List Held) (p : ℕ) (c : Captures) (q : ℕ) (d : Captures) → HasState rows g p
        → Covers site.text.now site.high live g p c → n ≤ 0 → Chain (DoesFurther site.text.now t) n p q c d
        → (h : List Held) × HasState all h q × Covers site.text.now site.high live h q d
    none zero g p c q d has covers few chain = stay site live all g p q c d ((same g p).1 has) covers chain
    none (suc n) g p c q d has covers few chain = absurd (omega (arith, few))

-- a state was gone on from, or wasn't
pub gone_or_fresh : (all : Rows) (h : List Held) (p : ℕ) → HasState all h p → IsDone all h p ⊎ IsFresh all h p
gone_or_fresh all h p (row, in_rows, held, has) =
    let xs = row.places.items in
    elim (Contains-append_cases (take row.done xs) (drop row.done xs) p
    (subst (λ (ys : List ℕ). Contains ys p) (sym (take-append-drop row.done xs)) has)) [
      | inl front ↦ inl (row, in_rows, held, front)
      | inr back ↦ inr (row, in_rows, held, back)
    ]

pub fresh_there : (all : Rows) (h : List Held) (p : ℕ) → IsFresh all h p → HasState all h p
fresh_there all h p (row, in_rows, held, has) = (row, in_rows, held, in_front row.places.items row.done p has)

-- one round more; what is found comes from what was there, and what follows what was fresh is there
pub round_more : (site : Site) (t : Tree) (live : List ℕ) (rows old mid found new : Rows) (r : ℕ)
    → Round site t live rows old r → AreSame (HasState mid) (HasState old) → AreSame (IsDone mid) (HasState old)
    → IsSound site (DoesOrStays site.text.now t) live live old found
    → Follows site (DoesFurther site.text.now t) live live (IsFresh old) new → AreInside site.low site.high found
    → IsJoined mid found new → KeepsDone mid new → Round site t live rows new (r + 1)
round_more site t live rows old mid found new r known same gone_on sound whole inside joined keeps = record {
  sound = λ h q has. elim ((joined h q).0 has) [
    | inl was ↦
        sound_as site (UpTo site.text.now t r) (UpTo site.text.now t (r + 1)) live live rows old
        (λ p n c d step. (step.0, omega (arith, step.1), step.2)) known.sound h q ((same h q).0 was)
    | inr is ↦
        let s = site.text.now in
        sound_as site (Both (UpTo s t r) (DoesOrStays s t)) (UpTo s t (r + 1)) live live rows found (up_to_then s t r)
        (sound_then site (UpTo s t r) (DoesOrStays s t) live live live rows old found known.sound sound) h q is
  ];
  front = λ g p c q d has covers (n, few, chain) low. each n g p c q d has covers few chain low;
  closed = λ g p c q d gone. step g p c q d ((gone_on g p).0 ((keeps g p).0 gone));
  inside = inside_joined site.low site.high mid found new joined
      (λ h p has. known.inside h p ((same h p).0 has)) inside;
}
  where
    here : HasAll old new
    here h p has = (joined h p).1 (inl ((same h p).1 has))

    step : Follows site (DoesFurther site.text.now t) live live (HasState old) new
    step g p c q d has covers on low = elim (gone_or_fresh old g p has) [
      | inl gone ↦ let k = known.closed g p c q d gone covers on low in (k.0, here k.0 q k.1, k.2)
      | inr is ↦ whole g p c q d is covers on low
    ]

    each : (n : ℕ) (g : List Held) (p : ℕ) (c : Captures) (q : ℕ) (d : Captures) → HasState rows g p
        → Covers site.text.now site.high live g p c → n ≤ r + 1 → Chain (DoesFurther site.text.now t) n p q c d
        → q ≤ site.high → (h : List Held) × HasState new h q × Covers site.text.now site.high live h q d
    each zero g p c q d has covers few chain low =
        let k = known.front g p c q d has covers (zero, omega arith, chain) low in (k.0, here k.0 q k.1, k.2)
    each (suc n) g p c q d has covers few (m, e, init, last) low =
        let k = known.front g p c m e has covers (n, omega (arith, few), init) (omega (arith, last.0, low)) in
        step k.0 m e q d k.1 k.2 last low

up_to_leads : (site : Site) (t : Tree) (live : List ℕ) (rows all : Rows) (r most : ℕ) → FitsText site → r ≤ most
    → Round site t live rows all r → IsComplete site (UpTo site.text.now t most) live live rows all
    → Leads site (DoesUpTo site.text.now t most) live live rows all
up_to_leads site t live rows all r most fits less known whole = record {
  sound = λ h q has.
      let k = known.sound h q has in
      let within : q ≤ length site.text.now = omega (arith, fits, (known.inside h q has).1) in
      (k.0, k.1, k.2, λ c covers. let one = k.3 c covers in (one.0, to k.1 q c one.0 within one.1, one.2));
  complete = λ g p c q d has covers (ws, few, h). whole g p c q d has covers
      (let all = each_chain site.text.now t ws zero p p q c c d (refl, refl) h in (all.0, omega (arith, few, all.1), all.2));
  inside = known.inside;
}
  where
    to : (p q : ℕ) (c d : Captures) → q ≤ length site.text.now → UpTo site.text.now t r p q c d
        → DoesUpTo site.text.now t most p q c d
    to p q c d within (n, few, chain) =
        let each = chain_each site.text.now t n done p q q c d d chain (refl, within, refl) in
        (each.0, omega (arith, less, few, each.1), each.2)

-- so many rounds were made
pub round_last : (site : Site) (t : Tree) (live : List ℕ) (rows all : Rows) (r most : ℕ) → FitsText site → r ≡ most
    → Round site t live rows all r → Leads site (DoesUpTo site.text.now t most) live live rows all
round_last site t live rows all r most fits same known =
    up_to_leads site t live rows all r most fits (omega (arith, same)) known
    (subst (λ n. IsComplete site (UpTo site.text.now t n) live live rows all) same known.front)

-- or what follows what is fresh is there
pub round_over : (site : Site) (t : Tree) (live : List ℕ) (rows old mid : Rows) (r most : ℕ) → FitsText site → r ≤ most
    → Round site t live rows old r → AreSame (HasState mid) (HasState old)
    → Follows site (DoesFurther site.text.now t) live live (IsFresh old) old
    → Leads site (DoesUpTo site.text.now t most) live live rows mid
round_over site t live rows old mid r most fits less known same whole =
    leads_same site (DoesUpTo site.text.now t most) live live rows rows old mid (same_itself rows) same
    (up_to_leads site t live rows old r most fits less known
    (λ g p c q d has covers (n, few, chain) low. on n g p c q d has covers chain low))
  where
    on : (n : ℕ) → Follows site (Chain (DoesFurther site.text.now t) n) live live (HasState rows) old
    on zero g p c q d has covers chain low = known.front g p c q d has covers (zero, omega arith, chain) low
    on (suc n) g p c q d has covers (m, e, init, last) low =
        let k = on n g p c m e has covers init (omega (arith, last.0, low)) in
        elim (gone_or_fresh old k.0 m k.1) [
          | inl gone ↦ known.closed k.0 m e q d gone k.2 last low
          | inr is ↦ whole k.0 m e q d is k.2 last low
        ]

-- ONE MEMBER, TOLD FOR ALL ROWS

-- Where each way has a byte, or none sets a group that is read: one that isn't empty, or what the same state covers.
further_or_stays : (site : Site) (t : Tree) (live : List ℕ) → (has_byte t ≡ true) ⊎ (sets_one t live ≡ false)
    → (p q : ℕ) (c d : Captures) (h : List Held) → Does site.text.now t p q c d
    → Covers site.text.now site.high live h q d
    → (e : Captures) × DoesOrStays site.text.now t p q c e × Covers site.text.now site.high live h q e
further_or_stays site t live (inl byte) p q c d h (w, step) covers =
    (d, inl (byte_moves site.text.now t byte w p q c d step, (w, step)), covers)
further_or_stays site t live (inr none) p q c d h (w, step) covers = elim (cases_lt p q) [
  | inl on ↦ (d, inl (on, (w, step)), covers)
  | inr stays ↦ (
    c,
    inr (omega (arith, stays, (is_part site.text.now t w p q c d step).0), refl),
    λ n has. subst (Tells site.text.now site.high q (part_in h n))
        (untouched site.text.now live n has t w p q c d none step).0 (covers n has),
  )
]

pub further_whole : (site : Site) (t : Tree) (live : List ℕ) (rows found : Rows)
    → (has_byte t ≡ true) ⊎ (sets_one t live ≡ false) → LeadsOver site t live rows found
    → LeadsFurther site t live rows found
further_whole site t live rows found either leads before has =
    let whole = leads before has in
    record {
      sound = λ h q has.
          let known = whole.sound h q has in (
            known.0,
            known.1,
            known.2,
            λ c covers. let one = known.3 c covers in
                further_or_stays site t live either known.1 q c one.0 h one.1 one.2,
          );
      complete = λ g p c q d has covers step low. whole.complete g p c q d has covers step.1 low;
      inside = whole.inside;
    }

-- THOSE BEYOND A PLACE

abbrev pub Beyond : ℕ → List Held → ℕ → States
Beyond place g p h q = (h ≡ g) × (q ≡ p) × (place < p)

abbrev pub BeyondFully : ℕ → List Held → ℕ → States → Type 0
BeyondFully place g p F = place < p → F g p

abbrev pub BeyondSoFar : ℕ → Rows → States → Rows → Type 0
BeyondSoFar place old S new = Gone (HasState old) (Beyond place) (BeyondFully place) S (HasState new)

module _ (place : ℕ) (old : Rows) where
  pub beyond_first : (rows : List Row) → BeyondSoFar place old (Taken rows 0) old
  beyond_first rows = gone_none _ _ _ _ _ (taken_none rows) (same_itself old)

  -- one place more, which lies beyond it or doesn't
  pub beyond_put : (S T : States) (g : List Held) (end : ℕ) (all new : Rows) → place < end → Grows S g (end ∷ []) T
      → IsPut all g (end ∷ []) new → BeyondSoFar place old S all → BeyondSoFar place old T new
  beyond_put S T g end all new low grows put =
      gone_put_one _ (Beyond place) (BeyondFully place) S T all new g g end end
      (λ x p F G more whole on. more x p (whole on)) grows put (refl, refl, low) (λ on. (put g end).1 (inr (refl, one_has end)))

  pub beyond_skip : (S T : States) (g : List Held) (end : ℕ) (all : Rows) → end ≤ place → Grows S g (end ∷ []) T
      → BeyondSoFar place old S all → BeyondSoFar place old T all
  beyond_skip S T g end all past grows =
      gone_skip_one _ (Beyond place) (BeyondFully place) S T (HasState all) g end
      (λ x p F G more whole on. more x p (whole on)) grows (λ on. absurd (omega (arith, past, on)))

  pub beyond_last : (from new : Rows) (rows : List Row) (k : ℕ) → rows ≡ from.rows.items → length rows ≤ k
      → BeyondSoFar place old (Taken rows k) new → PutsBeyond place from old new
  beyond_last from new rows k same past gone h p = (
    λ has. elim (gone.sound h p has) [
      | inl was ↦ inl was
      | inr (g, q, at, (list, here, low)) ↦ inr (
        subst (λ (x : List Held). HasState from x p) (sym list)
            (subst (HasState from g) (sym here) (of_state from rows k same past g q at)),
        subst (λ n. place < n) (sym here) low,
      )
    ],
    λ has. elim has [
      | inl was ↦ gone.kept h p was
      | inr is ↦ gone.whole h p (state_of from rows k same past h p is.0) is.1
    ],
  )

-- ONE MEMBER, PLACE BY PLACE

abbrev pub FurtherSoFar : Site → Tree → List ℕ → States → Rows → Type 0
FurtherSoFar site t live S all = GoneBy site (DoesFurther site.text.now t) (reads t) live S all

module _ (site : Site) (t : Tree) (live : List ℕ) where
  -- one place more, from rows that have it alone
  pub further_more : (S T : States) (g : List Held) (p : ℕ) (start one found old new : Rows)
      → start.rows.items ≡ [] → IsPut start g (p ∷ []) one → Grows S g (p ∷ []) T → LeadsOver site t live one found
      → PutsBeyond p found old new → FurtherSoFar site t live S old → FurtherSoFar site t live T new
  further_more S T g p start one found old new empty put grows leads beyond =
      gone_more Never _ _ S T (HasState old) (HasState new) g (p ∷ [])
      (full_stays site (DoesFurther site.text.now t) (reads t) live) grows (λ h q was. (beyond h q).1 (inl was))
      (λ h q has. elim ((beyond h q).0 has) [
        | inl was ↦ inl was
        | inr ends ↦
            let lies = over_inside site t live one found leads h q ends.0 in
            inr (p, one_has p, (lies.0, lies.1, λ before has. goes before has h q ends.0 ends.1))
      ])
      (λ b at. subst (λ x. FullBy site (DoesFurther site.text.now t) (reads t) live g x (HasState new)) (one_is p b at)
      (λ before has c q d covers step low.
      let k = (leads before has).complete g p c q d ((put g p).1 (inr (refl, one_has p))) covers step.1 low in
      (k.0, (beyond k.0 q).1 (inr (k.1, step.0)), k.2)))
    where
      goes : (before : List ℕ) → HasRead (reads t) live before → (h : List Held) (q : ℕ) → HasState found h q → p < q
          → Goes site (DoesFurther site.text.now t) before live g p h q
      goes before has h q ends on =
          let from = (leads before has).sound h q ends in
          elim ((put from.0 from.1).0 from.2) [
            | inl never ↦ absurd ((no_state start empty from.0 from.1).0 never)
            | inr (same, at) ↦
                subst (λ x. Goes site (DoesFurther site.text.now t) before live g x h q) (sym (one_is p from.1 at))
                (subst (λ x. Goes site (DoesFurther site.text.now t) before live x from.1 h q) same
                (λ c covers. let step = from.3 c covers in
                (step.0, (subst (λ n. n < q) (one_is p from.1 at) on, step.1), step.2)))
          ]

  pub further_last : (from all : Rows) (rows : List Row) (k : ℕ) → rows ≡ from.rows.items → length rows ≤ k
      → FurtherSoFar site t live (Taken rows k) all → LeadsFurther site t live from all
  further_last from all rows k same past gone before has =
      let s = site.text.now in
      let whole = gone_last site (DoesFurther s t) (reads t) live from all rows k same past gone before has in
      record {
        sound = sound_as site (DoesFurther s t) (DoesOrStays s t) before live from all (λ p q c d step. inl step) whole.sound;
        complete = whole.complete;
        inside = whole.inside;
      }

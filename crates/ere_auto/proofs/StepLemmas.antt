-- One step of the threads, from the place n to the next: seeds, closure, byte.
-- Each list of the step has exactly the nodes at which a start arrives that counts, each with the least such start:
-- before the step by the last byte, then with a start at n, then by what is skipped, then by the next byte.
-- The hard one is `moved_follows`: those that the cut leaves out begin behind the start of the match.
use Rattle.std.proofs.Common.{◌≡◌, ℕ, ◌+◌, ◌<◌, ◌≤◌, ◌⊎◌, ◌==◌, ◌||◌, Bool, true, false, Option, Some, None, List, [], ◌∷◌, ◌++◌, zero, suc, length, refl, sym, ap, ◌∙◌, subst, inl, inr, arith, slice_index, is_none, eq-eqb, ne_eqb, true≢false}
use Rattle.std.proofs.lemmas.Bool.{cases_lt}
use Rattle.ere_tree.specs.Derivation.{is_line_start, is_line_end}
use Rattle.ere_tree.proofs.CapturesLemmas.{some_same}
use Rattle.ere_table.specs.Node.{Node}
use Rattle.ere_table.specs.Path.{Leads}
use Rattle.ere_table.proofs.PathLemmas.{joined}
use Rattle.ere_auto.specs.Closure.{Skips, Takes, SkipPath, Reaches, Opened, node_in, origin_in, HasNode, HasBy, Rises, Apart, Counts, Follows, Closed, MetFirst, CutAt}
use Rattle.ere_auto.specs.Moved.{Moved}
use Rattle.ere_auto.specs.Step.{Shows, Begun, Agrees, limit_behind, StopsBy, Past, StandsAt, IsStep, Seeds, ends_line}
use Rattle.ere_auto.specs.Threads.{Adds}
use Rattle.ere_auto.specs.declared.thread.Thread.{Thread}
use Rattle.ere_auto.proofs.EdgeLemmas.{goes_on, parted, skips_lead, opened_leads}
use Rattle.ere_auto.proofs.ListLemmas.{old_or_new, node_old, origin_old, node_new, origin_new, has_by_old, has_by_new, has_by_more, rises_more}

-- a start at the place n arrives at the entry, others where a byte has taken them
abbrev pub Arrives : List ℕ → (ℕ → Node) → ℕ → ℕ → ℕ → ℕ → Type 0
Arrives s T e n h q = Opened s T e n h q ⊎ ((q ≡ e) × (h ≡ n))

pub opened_before : (s : List ℕ) (T : ℕ → Node) (e n h q : ℕ) → Opened s T e n h q → h < n
opened_before s T e n h q o =
    let on : h ≤ o.before = goes_on s T o.leads.0 e h o.node o.before o.leads.1 in omega (arith, o.place, on)

-- SEEDS

pub agrees_rises : (σ τ : ℕ → ℕ) (K : List Thread) → Agrees σ τ K → Rises σ K → Rises τ K
agrees_rises σ τ K a r = record {
  rising = λ x y u v.
      omega (arith, r.rising x y u v, a.same x (omega (arith, u, v)), a.same y v);
}

-- while no match is known, a start at n is one more seed
seeds_kept : (s : List ℕ) (T : ℕ → Node) (e begin n : ℕ) (σ τ : ℕ → ℕ) (K : List Thread)
    → Agrees σ τ K → Follows (Opened s T e n) begin None σ K → HasNode K e
    → Follows (Arrives s T e n) begin None τ K
seeds_kept s T e begin n σ τ K a f has = record {
  arrives = λ x l. inl (subst (λ h. Opened s T e n h (node_in K x)) (sym (a.same x l)) (f.arrives x l));
  begins = λ x l. omega (arith, f.begins x l, a.same x l);
  counts = λ x l. tt;
  complete = λ h q b c arrived. elim arrived [
    | inl came ↦
        let by = f.complete h q b c came in
        record { index = by.index; inside = by.inside; is = by.is; by = omega (arith, by.by, a.same by.index by.inside) }
    | inr here ↦
        let before = opened_before s T e n _ _ (f.arrives has.index has.inside) in
        record {
          index = has.index;
          inside = has.inside;
          is = has.is ∙ sym here.0;
          by = omega (arith, before, here.1, a.same has.index has.inside);
        }
  ];
  rises = agrees_rises σ τ K a f.rises;
}

seeds_more : (s : List ℕ) (T : ℕ → Node) (e begin n fresh : ℕ) (σ τ : ℕ → ℕ) (K : List Thread) → begin ≤ n
    → Agrees σ τ K → τ fresh ≡ n → Follows (Opened s T e n) begin None σ K
    → Follows (Arrives s T e n) begin None τ (K ++ record { node = e; origin = fresh } ∷ [])
seeds_more s T e begin n fresh σ τ K m a z f =
    let t : Thread = record { node = e; origin = fresh } in
    let old : (x : ℕ) → x < length K → τ (origin_in (K ++ t ∷ []) x) ≡ σ (origin_in K x) =
    (λ x l. ap τ (origin_old K t x l) ∙ a.same x l) in
    let new : (x : ℕ) → x ≡ length K → τ (origin_in (K ++ t ∷ []) x) ≡ n = (λ x l. ap τ (origin_new K t x l) ∙ z) in
    record {
      arrives = λ x l. elim (old_or_new K t x l) [
        | inl o ↦
            inl (subst (λ h. Opened s T e n h (node_in (K ++ t ∷ []) x)) (sym (old x o))
            (subst (λ q. Opened s T e n (σ (origin_in K x)) q) (sym (node_old K t x o)) (f.arrives x o)))
        | inr w ↦ inr (node_new K t x w, new x w)
      ];
      begins = λ x l. elim (old_or_new K t x l) [
        | inl o ↦ omega (arith, f.begins x o, old x o)
        | inr w ↦ omega (arith, m, new x w)
      ];
      counts = λ x l. tt;
      complete = λ h q b c arrived. elim arrived [
        | inl came ↦
            let by = f.complete h q b c came in
            has_by_old τ K t q h (record {
              index = by.index;
              inside = by.inside;
              is = by.is;
              by = omega (arith, by.by, a.same by.index by.inside);
            })
        | inr here ↦ has_by_new τ K t q h (sym here.0) (omega (arith, z, here.1))
      ];
      rises =
          rises_more τ K t (agrees_rises σ τ K a f.rises)
          (λ x l. omega (arith, z, a.same x l, opened_before s T e n _ _ (f.arrives x l)));
    }

pub seeds_follow : (s : List ℕ) (T : ℕ → Node) (e begin n fresh : ℕ) (σ τ : ℕ → ℕ) (K L : List Thread) → begin ≤ n
    → Agrees σ τ K → τ fresh ≡ n → Adds K L e fresh → Follows (Opened s T e n) begin None σ K
    → Follows (Arrives s T e n) begin None τ L
seeds_follow s T e begin n fresh σ τ K L m a z (inl had) f =
    subst (Follows (Arrives s T e n) begin None τ) (sym had.0) (seeds_kept s T e begin n σ τ K a f had.1)
seeds_follow s T e begin n fresh σ τ K L m a z (inr added) f =
    subst (Follows (Arrives s T e n) begin None τ) (sym added) (seeds_more s T e begin n fresh σ τ K m a z f)

-- once a match is known, no start at n counts
pub seeds_stay : (s : List ℕ) (T : ℕ → Node) (e begin n last : ℕ) (σ : ℕ → ℕ) (K : List Thread) → last < n
    → Follows (Opened s T e n) begin (Some last) σ K → Follows (Arrives s T e n) begin (Some last) σ K
seeds_stay s T e begin n last σ K m f = record {
  arrives = λ x l. inl (f.arrives x l);
  begins = f.begins;
  counts = f.counts;
  complete = λ h q b c arrived. elim arrived [
    | inl came ↦ f.complete h q b c came
    | inr here ↦ absurd (omega (arith, here.1, c, m))
  ];
  rises = f.rises;
}

-- CLOSURE

pub skipped : (starts ends : Bool) (T : ℕ → Node) (seeds K : List Thread) → Closed starts ends T seeds K
    → (l q p b : ℕ) → HasBy (λ k. k) K q b → SkipPath starts ends T l q p → HasBy (λ k. k) K p b
skipped starts ends T seeds K c zero q p b h g =
    record { index = h.index; inside = h.inside; is = h.is ∙ sym g; by = h.by }
skipped starts ends T seeds K c (suc l) q p b h g =
    let on = c.closed h.index g.0 h.inside (subst (λ x. Skips starts ends (T x) g.0) (sym h.is) g.1) in
    skipped starts ends T seeds K c l g.0 p b (has_by_more (λ k. k) K g.0 (origin_in K h.index) b h.by on) g.2

closure_has : (s : List ℕ) (T : ℕ → Node) (e n : ℕ) (σ : ℕ → ℕ) (seeds K : List Thread)
    → Closed (is_line_start s n) (is_line_end s n) T seeds K → Rises σ seeds → (h r q : ℕ) → HasBy σ seeds r h
    → Reaches (is_line_start s n) (is_line_end s n) T r q → HasBy (λ k. σ (origin_in seeds k)) K q h
closure_has s T e n σ seeds K c rises h r q seed skips =
    let at = c.seeded seed.index seed.inside in
    let first = subst (λ x. HasBy (λ k. k) K x seed.index) seed.is at in
    let found = skipped (is_line_start s n) (is_line_end s n) T seeds K c skips.0 r q seed.index first skips.1 in
    record {
      index = found.index;
      inside = found.inside;
      is = found.is;
      by = omega (arith, seed.by, rises.rising (origin_in K found.index) seed.index found.by seed.inside);
    }

pub closure_follows : (s : List ℕ) (T : ℕ → Node) (e begin n : ℕ) (limit : Option ℕ) (σ : ℕ → ℕ) (seeds K : List Thread)
    → Follows (Arrives s T e n) begin limit σ seeds → Closed (is_line_start s n) (is_line_end s n) T seeds K
    → Follows (λ h q. Leads s T e h q n) begin limit (λ k. σ (origin_in seeds k)) K
closure_follows s T e begin n limit σ seeds K f c = record {
  arrives = λ x l.
      let from = origin_in K x in
      let skips = c.sound x l in
      let on = skips_lead s T n skips.0 (node_in seeds from) (node_in K x) skips.1 in
      elim (f.arrives from (c.from x l)) [
        | inl came ↦
            joined s T e (σ (origin_in seeds from)) (node_in seeds from) n (node_in K x) n
            (opened_leads s T e n (σ (origin_in seeds from)) (node_in seeds from) came) on
        | inr here ↦
            subst (λ h. Leads s T e h (node_in K x) n) (sym here.1)
            (subst (λ q. Leads s T q n (node_in K x) n) here.0 on)
      ];
  begins = λ x l. f.begins (origin_in K x) (c.from x l);
  counts = λ x l. f.counts (origin_in K x) (c.from x l);
  complete = λ h q b counted leads.
      elim (parted s T leads.0 e n h q leads.1) [
        | inl here ↦
            let seed = f.complete h e b counted (inr (refl, here.0)) in
            closure_has s T e n σ seeds K c f.rises h e q seed here.1
        | inr later ↦
            let seed = f.complete h later.0 b counted (inl later.1) in
            closure_has s T e n σ seeds K c f.rises h later.0 q seed later.2
      ];
  rises = record {
    rising = λ x y u v.
        f.rises.rising (origin_in K x) (origin_in K y) (c.rises.rising x y u v) (c.from y v);
  };
}

-- THE NEXT BYTE

counts_below : (limit : Option ℕ) (h k : ℕ) → h ≤ k → Counts limit k → Counts limit h
counts_below None h k l c = tt
counts_below (Some last) h k l c = omega (arith, l, c)

-- what one step has made of the seeds
pub record Stepped (s : List ℕ) (T : ℕ → Node) (e begin n : ℕ) (limit : Option ℕ) (σ : ℕ → ℕ) (seeds K : List Thread) : Type 0 where
  pub follows : Follows (λ h q. Leads s T e h q n) begin limit (λ k. σ (origin_in seeds k)) K
  pub apart : Apart σ seeds
  pub from : (x : ℕ) → x < length K → origin_in K x < length seeds

-- a thread that was used doesn't begin behind the match
used_counts : (s : List ℕ) (T : ℕ → Node) (e begin n : ℕ) (limit : Option ℕ) (σ : ℕ → ℕ) (seeds K : List Thread)
    → Stepped s T e begin n limit σ seeds K → (used : ℕ) → used ≤ length K → (met : Option ℕ) → MetFirst seeds K used met
    → (x : ℕ) → x < used → Counts (limit_behind limit σ met) (σ (origin_in seeds (origin_in K x)))
used_counts s T e begin n limit σ seeds K f used w None met x l = f.follows.counts x (omega (arith, l, w))
used_counts s T e begin n limit σ seeds K f used w (Some m) met x l =
    elim (cases_lt x met.first) [
      | inl before ↦
          omega (arith, ap σ met.is, f.follows.rises.rising x met.first (omega (arith, before)) (omega (arith, met.inside, w)))
      | inr behind ↦ omega (arith, ap σ (met.one x behind l))
    ]

-- a start that counts once the step is made counted before
still_counts : (s : List ℕ) (T : ℕ → Node) (e begin n : ℕ) (limit : Option ℕ) (σ : ℕ → ℕ) (seeds K : List Thread)
    → Stepped s T e begin n limit σ seeds K → (used : ℕ) → used ≤ length K → (met : Option ℕ) → MetFirst seeds K used met
    → (h : ℕ) → Counts (limit_behind limit σ met) h → Counts limit h
still_counts s T e begin n limit σ seeds K f used w None met h c = c
still_counts s T e begin n limit σ seeds K f used w (Some m) met h c =
    counts_below limit h (σ (origin_in seeds (origin_in K met.first))) (omega (arith, c, ap σ met.is))
    (f.follows.counts met.first (omega (arith, met.inside, w)))

-- a thread with a start that counts was used
was_used : (s : List ℕ) (T : ℕ → Node) (e begin n : ℕ) (limit : Option ℕ) (σ : ℕ → ℕ) (seeds K : List Thread)
    → Stepped s T e begin n limit σ seeds K → (used : ℕ) → used ≤ length K → (met : Option ℕ) → MetFirst seeds K used met
    → CutAt seeds K used met → (x h : ℕ) → x < length K → σ (origin_in seeds (origin_in K x)) ≤ h
    → Counts (limit_behind limit σ met) h → x < used
was_used s T e begin n limit σ seeds K f used w None met cut x h l b c = omega (arith, l, cut)
was_used s T e begin n limit σ seeds K f used w (Some m) met cut x h l b c =
    elim (cases_lt x used) [
      | inl before ↦ before
      | inr behind ↦
          let last : used < length K = omega (arith, behind, l) in
          let low = f.follows.rises.rising met.first used (omega (arith, met.inside)) last in
          let high = f.follows.rises.rising used x behind l in
          let first : met.first < length K = omega (arith, met.inside, w) in
          let same = f.apart.apart (origin_in K used) (origin_in K met.first) (f.from used last) (f.from met.first first)
          (omega (arith, low, high, b, c, ap σ met.is)) in
          absurd (cut last (same ∙ met.is))
    ]

pub moved_follows : (s : List ℕ) (T : ℕ → Node) (e begin n : ℕ) (limit : Option ℕ) (σ : ℕ → ℕ) (seeds K new : List Thread)
    → n < length s → Stepped s T e begin n limit σ seeds K → (used : ℕ) (met : Option ℕ) → MetFirst seeds K used met
    → CutAt seeds K used met → Moved T seeds K new (Some (slice_index s n)) used
    → Follows (Opened s T e (n + 1)) begin (limit_behind limit σ met) σ new
moved_follows s T e begin n limit σ seeds K new b f used met m cut v = record {
  arrives = λ x l.
      let comes = v.sound x l in
      let inside : comes.before < length K = omega (arith, comes.inside, v.within) in
      subst (λ h. Opened s T e (n + 1) h (node_in new x)) (sym (ap σ comes.origin)) (record {
        node = node_in K comes.before;
        before = n;
        place = refl;
        inside = b;
        leads = f.follows.arrives comes.before inside;
        takes =
            subst (λ c. Takes (T (node_in K comes.before)) c (node_in new x))
            (sym (some_same (slice_index s n) comes.byte comes.shown)) comes.takes;
      });
  begins = λ x l.
      let comes = v.sound x l in
      omega (arith, f.follows.begins comes.before (omega (arith, comes.inside, v.within)), ap σ comes.origin);
  counts = λ x l.
      let comes = v.sound x l in
      subst (Counts (limit_behind limit σ met)) (sym (ap σ comes.origin))
      (used_counts s T e begin n limit σ seeds K f used v.within met m comes.before comes.inside);
  complete = λ h q begins counted came.
      let same : came.before ≡ n = omega (arith, came.place) in
      let leads = subst (λ x. Leads s T e h came.node x) same came.leads in
      let takes = subst (λ x. Takes (T came.node) (slice_index s x) q) same came.takes in
      let had = f.follows.complete h came.node begins
      (still_counts s T e begin n limit σ seeds K f used v.within met m h counted) leads in
      let was = was_used s T e begin n limit σ seeds K f used v.within met m cut had.index h had.inside had.by counted in
      let goes = v.complete had.index (slice_index s n) q was refl
      (subst (λ x. Takes (T x) (slice_index s n) q) (sym had.is) takes) in
      record {
        index = goes.index;
        inside = goes.inside;
        is = goes.is;
        by =
            omega (
              arith,
              ap σ goes.origin,
              had.by,
              f.follows.rises.rising goes.before had.index goes.first had.inside,
            );
      };
  rises = v.rises σ f.follows.rises;
}

pub moved_apart : (s : List ℕ) (T : ℕ → Node) (e begin n : ℕ) (limit : Option ℕ) (σ : ℕ → ℕ) (seeds K new : List Thread)
    (next : Option ℕ) → Stepped s T e begin n limit σ seeds K → (used : ℕ) → Moved T seeds K new next used → Apart σ new
moved_apart s T e begin n limit σ seeds K new next f used v = record {
  apart = λ x y u w same.
      let one = v.sound x u in
      let other = v.sound y w in
      one.origin
      ∙ f.apart.apart (origin_in K one.before) (origin_in K other.before)
      (f.from one.before (omega (arith, one.inside, v.within))) (f.from other.before (omega (arith, other.inside, v.within)))
      (sym (ap σ one.origin) ∙ same ∙ ap σ other.origin)
      ∙ sym other.origin;
}

-- THE STOP

-- no start that counts leads to the stop before the one that was met, and this one does
pub met_stops : (s : List ℕ) (T : ℕ → Node) (e begin n : ℕ) (limit : Option ℕ) (σ : ℕ → ℕ) (seeds K : List Thread)
    → Stepped s T e begin n limit σ seeds K → (used : ℕ) → used ≤ length K → (met : Option ℕ) → MetFirst seeds K used met
    → CutAt seeds K used met
    → StopsBy (λ h. (begin ≤ h) × Counts limit h) σ (λ h. Leads s T e h 0 n) met
met_stops s T e begin n limit σ seeds K f used w None met cut =
    λ h counted leads.
    let had = f.follows.complete h 0 counted.0 counted.1 leads in
    met had.index (omega (arith, had.inside, cut)) had.is
met_stops s T e begin n limit σ seeds K f used w (Some m) met cut =
    let inside : met.first < length K = omega (arith, met.inside, w) in
    let start = ap σ met.is in (
      subst (λ h. (begin ≤ h) × Counts limit h) start (f.follows.begins met.first inside, f.follows.counts met.first inside),
      subst (λ h. Leads s T e h 0 n) start
          (subst (λ q. Leads s T e (σ (origin_in seeds (origin_in K met.first))) q n) met.stops
          (f.follows.arrives met.first inside)),
      λ h counted leads.
          let had = f.follows.complete h 0 counted.0 counted.1 leads in
          elim (cases_lt had.index met.first) [
            | inl before ↦ absurd (met.none had.index before had.is)
            | inr behind ↦ omega (arith, start, had.by, f.follows.rises.rising met.first had.index behind had.inside)
          ],
    )

-- ALL OF A STEP

-- a step stands on the same starts under the new assignment
follows_again : (A : ℕ → ℕ → Type 0) (begin : ℕ) (limit : Option ℕ) (σ τ : ℕ → ℕ) (K : List Thread) → Agrees σ τ K
    → Follows A begin limit σ K → Follows A begin limit τ K
follows_again A begin limit σ τ K a f = record {
  arrives = λ x l. subst (λ h. A h (node_in K x)) (sym (a.same x l)) (f.arrives x l);
  begins = λ x l. omega (arith, f.begins x l, a.same x l);
  counts = λ x l. subst (Counts limit) (sym (a.same x l)) (f.counts x l);
  complete = λ h q b c arrived.
      let by = f.complete h q b c arrived in
      record { index = by.index; inside = by.inside; is = by.is; by = omega (arith, by.by, a.same by.index by.inside) };
  rises = agrees_rises σ τ K a f.rises;
}

apart_again : (σ τ : ℕ → ℕ) (K : List Thread) → Agrees σ τ K → Apart σ K → Apart τ K
apart_again σ τ K a p = record {
  apart = λ x y u v e. p.apart x y u v (sym (a.same x u) ∙ e ∙ a.same y v);
}

-- the start at n is apart from those before it
apart_more : (s : List ℕ) (T : ℕ → Node) (e begin n fresh : ℕ) (σ τ : ℕ → ℕ) (K : List Thread)
    → Agrees σ τ K → τ fresh ≡ n → Follows (Opened s T e n) begin None σ K → Apart σ K
    → Apart τ (K ++ record { node = e; origin = fresh } ∷ [])
apart_more s T e begin n fresh σ τ K a z f p =
    let t : Thread = record { node = e; origin = fresh } in
    let old : (x : ℕ) → x < length K → τ (origin_in (K ++ t ∷ []) x) ≡ σ (origin_in K x) =
    (λ x l. ap τ (origin_old K t x l) ∙ a.same x l) in
    let new : (x : ℕ) → x ≡ length K → τ (origin_in (K ++ t ∷ []) x) ≡ n = (λ x l. ap τ (origin_new K t x l) ∙ z) in
    let early : (x : ℕ) → x < length K → τ (origin_in (K ++ t ∷ []) x) < n =
    (λ x l. omega (arith, old x l, opened_before s T e n _ _ (f.arrives x l))) in
    record {
      apart = λ x y u v same. elim (old_or_new K t x u) [
        | inl one ↦ elim (old_or_new K t y v) [
          | inl other ↦
              origin_old K t x one ∙ p.apart x y one other (sym (old x one) ∙ same ∙ old y other)
              ∙ sym (origin_old K t y other)
          | inr last ↦ absurd (omega (arith, early x one, same, new y last))
        ]
        | inr one ↦ elim (old_or_new K t y v) [
          | inl other ↦ absurd (omega (arith, early y other, same, new x one))
          | inr last ↦ origin_new K t x one ∙ sym (origin_new K t y last)
        ]
      ];
    }

seeds_apart : (s : List ℕ) (T : ℕ → Node) (e begin n fresh : ℕ) (σ τ : ℕ → ℕ) (K L : List Thread)
    → Agrees σ τ K → τ fresh ≡ n → Adds K L e fresh → Follows (Opened s T e n) begin None σ K → Apart σ K → Apart τ L
seeds_apart s T e begin n fresh σ τ K L a z (inl had) f p = subst (Apart τ) (sym had.0) (apart_again σ τ K a p)
seeds_apart s T e begin n fresh σ τ K L a z (inr added) f p =
    subst (Apart τ) (sym added) (apart_more s T e begin n fresh σ τ K a z f p)

-- the seeds of a step
seeded : (s : List ℕ) (T : ℕ → Node) (e begin n : ℕ) (limit : Option ℕ) (σ τ : ℕ → ℕ) (K L : List Thread)
    (searching : Bool) (begun : Option ℕ) → begin ≤ n → is_none limit ≡ searching → StandsAt s T e begin n limit σ K
    → Begun σ τ K begun n → Seeds K L e searching begun → Follows (Arrives s T e n) begin limit τ L × Apart τ L
seeded s T e begin n None σ τ K L true begun m h at b z =
    let a : Agrees σ τ K = record { same = b.same } in (
      seeds_follow s T e begin n z.0 σ τ K L m a (b.here z.0 z.1) z.2 at.follows,
      seeds_apart s T e begin n z.0 σ τ K L a (b.here z.0 z.1) z.2 at.follows at.apart,
    )
seeded s T e begin n None σ τ K L false begun m h at b z = absurd (true≢false h)
seeded s T e begin n (Some last) σ τ K L true begun m h at b z = absurd (true≢false (sym h))
seeded s T e begin n (Some last) σ τ K L false begun m h at b z =
    let a : Agrees σ τ K = record { same = b.same } in (
      subst (Follows (Arrives s T e n) begin (Some last) τ) (sym z.0)
          (follows_again (Arrives s T e n) begin (Some last) σ τ K a (seeds_stay s T e begin n last σ K at.past at.follows)),
      subst (Apart τ) (sym z.0) (apart_again σ τ K a at.apart),
    )

-- the next byte tells whether a line ends
pub line_end_shown : (s : List ℕ) (n : ℕ) (next : Option ℕ) → Shows s n next → is_line_end s n ≡ ends_line next
line_end_shown s n None h = ap (λ b. b || slice_index s n == 10) (eq-eqb n (length s) h)
line_end_shown s n (Some b) h =
    ap (λ x. x || slice_index s n == 10) (ne_eqb n (length s) (λ same. omega (arith, same, h.0)))
    ∙ ap (λ x. x == 10) h.1

-- what a step is made of
pub record Made (T : ℕ → Node) (e : ℕ) (K L : List Thread) (starts searching : Bool) (next begun met : Option ℕ) : Type 0 where
  pub seeds : List Thread
  pub reached : List Thread
  pub used : ℕ
  pub seeded : Seeds K seeds e searching begun
  pub free : (slot : ℕ) → begun ≡ Some slot → (x : ℕ) → x < length K → origin_in K x ≡ slot → ⊥
  pub closed : Closed starts (ends_line next) T seeds reached
  pub moved : Moved T seeds reached L next used
  pub stopped : MetFirst seeds reached used met
  pub cut : CutAt seeds reached used met

stepped : (s : List ℕ) (T : ℕ → Node) (e begin n : ℕ) (limit : Option ℕ) (σ τ : ℕ → ℕ) (K L : List Thread)
    (starts searching : Bool) (next begun met : Option ℕ) → (m : Made T e K L starts searching next begun met)
    → begin ≤ n → is_none limit ≡ searching → StandsAt s T e begin n limit σ K → is_line_start s n ≡ starts
    → Shows s n next → Begun σ τ K begun n → Stepped s T e begin n limit τ m.seeds m.reached
stepped s T e begin n limit σ τ K L starts searching next begun met m b h at line shown first =
    let both = seeded s T e begin n limit σ τ K m.seeds searching begun b h at first m.seeded in
    record {
      follows =
          closure_follows s T e begin n limit τ m.seeds m.reached both.0
          (subst (λ x. Closed (is_line_start s n) x T m.seeds m.reached) (sym (line_end_shown s n next shown))
          (subst (λ x. Closed x (ends_line next) T m.seeds m.reached) (sym line) m.closed));
      apart = both.1;
      from = m.closed.from;
    }

past_behind : (s : List ℕ) (T : ℕ → Node) (e begin n : ℕ) (limit : Option ℕ) (τ : ℕ → ℕ) (met : Option ℕ)
    → Past limit n → StopsBy (λ h. (begin ≤ h) × Counts limit h) τ (λ h. Leads s T e h 0 n) met
    → Past (limit_behind limit τ met) (n + 1)
past_behind s T e begin n None τ None p h = tt
past_behind s T e begin n (Some last) τ None p h = omega (arith, p)
past_behind s T e begin n limit τ (Some m) p h = omega (arith, goes_on s T h.1.0 e (τ m) 0 n h.1.1)

pub shown_byte : (s : List ℕ) (n : ℕ) (next : Option ℕ) → Shows s n next → n < length s → next ≡ Some (slice_index s n)
shown_byte s n None h l = absurd (omega (arith, h, l))
shown_byte s n (Some b) h l = ap Some (sym h.1)

pub made_is_step : (T : ℕ → Node) (e : ℕ) (K L : List Thread) (starts searching : Bool) (next begun met : Option ℕ)
    → Made T e K L starts searching next begun met → IsStep T e K L starts searching next begun met
made_is_step T e K L starts searching next begun met m = record {
  free = m.free;
  stops = λ s begin n limit σ τ b h at line shown first.
      let f = stepped s T e begin n limit σ τ K L starts searching next begun met m b h at line shown first in
      met_stops s T e begin n limit τ m.seeds m.reached f m.used m.moved.within met m.stopped m.cut;
  moves = λ s begin n limit σ τ b h at line shown first inside.
      let f = stepped s T e begin n limit σ τ K L starts searching next begun met m b h at line shown first in
      let moved = subst (λ x. Moved T m.seeds m.reached L x m.used) (shown_byte s n next shown inside) m.moved in
      record {
        follows =
            moved_follows s T e begin n limit τ m.seeds m.reached L inside f m.used met m.stopped m.cut moved;
        apart = moved_apart s T e begin n limit τ m.seeds m.reached L next f m.used m.moved;
        past =
            past_behind s T e begin n limit τ met at.past
            (met_stops s T e begin n limit τ m.seeds m.reached f m.used m.moved.within met m.stopped m.cut);
      };
}

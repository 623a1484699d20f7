-- Threads that are followed from some places at once: those that stand at a place, are reached there and come by the next byte.
-- Each list has exactly the nodes of such paths; where a path begins is kept as a place that there is, and not by the threads.
-- The hard one is `passes`, which puts closure, cut and byte together.
use Rattle.std.proofs.Common.{◌≡◌, ℕ, ◌+◌, ◌<◌, ◌≤◌, ◌↔◌, Bool, true, Option, Some, None, is_some, List, [], ◌++◌, ◌∷◌, length, refl, sym, ◌∙◌, subst, inl, inr, arith, slice_index, true≢false}
use Rattle.std.specs.List.{All, Contains}
use Rattle.std.proofs.lemmas.Bool.{cases_lt}
use Rattle.std.proofs.lemmas.List.Elements.{All-contains, Contains-append_left, Contains-push, Contains-push_cases}
use Rattle.ere_tree.specs.Derivation.{is_line_start, is_line_end}
use Rattle.ere_tree.specs.Tree.{Tree}
use Rattle.ere_tree.proofs.CapturesLemmas.{some_same}
use Rattle.ere_table.specs.Node.{Node, node_at}
use Rattle.ere_table.specs.Path.{Leads, LeadsAs}
use Rattle.ere_table.specs.declared.node.EreNode as code
use Rattle.ere_table.specs.declared.table.NodeTable.{NodeTable}
use Rattle.ere_table.proofs.PathLemmas.{joined}
use Rattle.ere_places.specs.Places as places
use Rattle.ere_places.specs.Places.{IsInside, IsReached, LeadsInside}
use Rattle.ere_places.specs.declared.window.Direction.TheVariants.{Ahead}
use Rattle.ere_places.specs.declared.window.Window.{Window}
use Rattle.ere_auto.specs.Closure.{Takes, Reaches, Closed, HasNode, MetFirst, CutAt, node_in, origin_in}
use Rattle.ere_auto.specs.Ends.{Comes, Stands, Arrives, AreOn, AreOne, PassesAll}
use Rattle.ere_auto.specs.Moved.{Moved}
use Rattle.ere_auto.specs.Step.{Shows, ends_line}
use Rattle.ere_auto.specs.Threads.{Adds}
use Rattle.ere_auto.specs.declared.thread.Thread.{Thread}
use Rattle.ere_auto.proofs.EdgeLemmas.{crosses, goes_on, opened_leads, parted, skips_lead}
use Rattle.ere_auto.proofs.StepLemmas.{line_end_shown, opened_before, shown_byte, skipped}
use Rattle.ere_auto.proofs.ThreadsLemmas.{added_has, grown_has, grown_one}

module _ (s : List ℕ) (T : ℕ → Node) (e : ℕ) (from : List ℕ) where
  -- before the first of the places there is no thread
  pub comes_first : (n : ℕ) → All (λ p. n ≤ p) from → AreOn (Comes s T e from n) []
  comes_first n least = record {
    sound = λ x l. absurd (omega (arith, l));
    complete = λ q came.
        absurd (omega (arith, All-contains (λ p. n ≤ p) from came.0 least came.1, opened_before s T e n came.0 q came.2));
  }

  pub stands_more : (n : ℕ) (K L : List Thread) → Contains from n → Adds K L e 0 → AreOn (Comes s T e from n) K
      → AreOn (Stands s T e from n) L
  stands_more n K L begins adds on =
      let g = grown_one K L e 0 (λ q. q ≡ e) refl adds in
      record {
        sound = λ x l. elim (cases_lt x (length K)) [
          | inl old ↦ inl (subst (Comes s T e from n) (sym (g.nodes x old)) (on.sound x old))
          | inr new ↦ inr (g.such x new l, begins)
        ];
        complete = λ q stands. elim stands [
          | inl came ↦ grown_has K L 0 q (λ p. p ≡ e) g (on.complete q came)
          | inr here ↦ subst (HasNode L) (sym here.0) (added_has K L e 0 adds)
        ];
      }

  pub stands_same : (n : ℕ) (K : List Thread) → (Contains from n → ⊥) → AreOn (Comes s T e from n) K
      → AreOn (Stands s T e from n) K
  stands_same n K nowhere on = record {
    sound = λ x l. inl (on.sound x l);
    complete = λ q stands. elim stands [ inl came ↦ on.complete q came | inr here ↦ absurd (nowhere here.1) ];
  }

  reached_has : (starts ends : Bool) (seeds K : List Thread) → Closed starts ends T seeds K → (r q : ℕ) → HasNode seeds r
      → Reaches starts ends T r q → HasNode K q
  reached_has starts ends seeds K c r q seed skips =
      let first = c.seeded seed.index seed.inside in
      let found = skipped starts ends T seeds K c skips.0 (node_in seeds seed.index) q seed.index first
      (subst (λ p. Reaches starts ends T p q) (sym seed.is) skips).1 in
      record { index = found.index; inside = found.inside; is = found.is }

  pub arrives_all : (n : ℕ) (seeds K : List Thread) → AreOn (Stands s T e from n) seeds
      → Closed (is_line_start s n) (is_line_end s n) T seeds K → AreOn (Arrives s T e from n) K
  arrives_all n seeds K stands c = record {
    sound = λ x l.
        let origin = origin_in K x in
        let skips = c.sound x l in
        let on = skips_lead s T n skips.0 (node_in seeds origin) (node_in K x) skips.1 in
        elim (stands.sound origin (c.from x l)) [
          | inl came ↦ (
            came.0,
            came.1,
            joined s T e came.0 (node_in seeds origin) n (node_in K x) n
                (opened_leads s T e n came.0 (node_in seeds origin) came.2) on,
          )
          | inr here ↦ (n, here.1, subst (λ q. Leads s T q n (node_in K x) n) here.0 on)
        ];
    complete = λ q arrived.
        let h = arrived.0 in
        elim (parted s T arrived.2.0 e n h q arrived.2.1) [
          | inl here ↦
              reached_has (is_line_start s n) (is_line_end s n) seeds K c e q
              (stands.complete e (inr (refl, subst (Contains from) here.0 arrived.1))) here.1
          | inr later ↦
              reached_has (is_line_start s n) (is_line_end s n) seeds K c later.0 q
              (stands.complete later.0 (inl (h, arrived.1, later.1))) later.2
        ];
  }

  pub comes_next : (n used : ℕ) (seeds K new : List Thread) → AreOn (Arrives s T e from n) K → used ≡ length K
      → n < length s → Moved T seeds K new (Some (slice_index s n)) used → AreOn (Comes s T e from (n + 1)) new
  comes_next n used seeds K new on all inside v = record {
    sound = λ x l.
        let comes = v.sound x l in
        let arrived = on.sound comes.before (omega (arith, comes.inside, v.within)) in (
          arrived.0,
          arrived.1,
          record {
            node = node_in K comes.before;
            before = n;
            place = refl;
            inside = inside;
            leads = arrived.2;
            takes =
                subst (λ c. Takes (T (node_in K comes.before)) c (node_in new x))
                (sym (some_same (slice_index s n) comes.byte comes.shown)) comes.takes;
          },
        );
    complete = λ q came.
        let opened = came.2 in
        let same : opened.before ≡ n = omega (arith, opened.place) in
        let leads = subst (λ x. Leads s T e came.0 opened.node x) same opened.leads in
        let takes = subst (λ x. Takes (T opened.node) (slice_index s x) q) same opened.takes in
        let had = on.complete opened.node (came.0, came.1, leads) in
        let goes = v.complete had.index (slice_index s n) q (omega (arith, had.inside, all)) refl
        (subst (λ x. Takes (T x) (slice_index s n) q) (sym had.is) takes) in
        record { index = goes.index; inside = goes.inside; is = goes.is };
  }

  pub stop_is_met : (n : ℕ) (seeds K : List Thread) (met : Option ℕ) → AreOn (Arrives s T e from n) K
      → MetFirst seeds K (length K) met → (is_some met ≡ true) ↔ Arrives s T e from n 0
  stop_is_met n seeds K None on met = (
    λ no. absurd (true≢false (sym no)),
    λ arrived. let had = on.complete 0 arrived in absurd (met had.index had.inside had.is),
  )
  stop_is_met n seeds K (Some m) on met =
      (λ yes. subst (Arrives s T e from n) met.stops (on.sound met.first met.inside), λ arrived. refl)

  -- where no thread stands behind the last of the places, nothing arrives any more
  pub arrives_no_more : (n last h q : ℕ) (K : List Thread) → length K ≡ 0 → AreOn (Stands s T e from n) K
      → All (λ p. p ≤ last) from → last < n → n ≤ q → Contains from h → Leads s T e h 0 q → ⊥
  arrives_no_more n last h q K none on most behind later begins leads =
      let before = All-contains (λ p. p ≤ last) from h most begins in
      let opened = crosses s T leads.0 e h 0 q n leads.1 (omega (arith, before, behind)) later in
      let has = on.complete opened.0 (inl (h, begins, opened.1)) in
      omega (arith, has.inside, none)

-- threads of one origin are all used
pub all_used : (starts ends : Bool) (T : ℕ → Node) (seeds K : List Thread) (used : ℕ) (met : Option ℕ) → AreOne seeds
    → Closed starts ends T seeds K → used ≤ length K → MetFirst seeds K used met → CutAt seeds K used met → used ≡ length K
all_used starts ends T seeds K used None one c within met cut = cut
all_used starts ends T seeds K used (Some m) one c within met cut =
    elim (cases_lt used (length K)) [
      | inl less ↦
          let first = one (origin_in K met.first) (c.from met.first (omega (arith, met.inside, within))) in
          absurd (cut less (one (origin_in K used) (c.from used less) ∙ sym first ∙ met.is))
      | inr all ↦ omega (arith, all, within)
    ]

pub moved_one : (starts ends : Bool) (T : ℕ → Node) (seeds K new : List Thread) (next : Option ℕ) (used : ℕ) → AreOne seeds
    → Closed starts ends T seeds K → Moved T seeds K new next used → AreOne new
moved_one starts ends T seeds K new next used one c v = λ x l.
    let comes = v.sound x l in
    comes.origin ∙ one (origin_in K comes.before) (c.from comes.before (omega (arith, comes.inside, v.within)))

pub one_more : (K L : List Thread) (e : ℕ) → Adds K L e 0 → AreOne K → AreOne L
one_more K L e adds one = λ x l.
    let g = grown_one K L e 0 (λ q. q ≡ e) refl adds in
    elim (cases_lt x (length K)) [
      | inl old ↦ g.origins x old ∙ one x old
      | inr new ↦ g.from x new l
    ]

pub passes : (s : List ℕ) (table : NodeTable) (n used : ℕ) (seeds K new : List Thread) (starts : Bool) (next met : Option ℕ)
    → Shows s n next → is_line_start s n ≡ starts → Closed starts (ends_line next) (node_at table.nodes.items) seeds K
    → Moved (node_at table.nodes.items) seeds K new next used → MetFirst seeds K used met → CutAt seeds K used met
    → AreOne seeds → PassesAll s table n seeds new (is_some met)
passes s table n used seeds K new starts next met shown line c v first cut one = λ from stands.
    let T = node_at table.nodes.items in
    let all = all_used starts (ends_line next) T seeds K used met one c v.within first cut in
    let on = arrives_all s T table.entry from n seeds K stands
    (subst (λ x. Closed (is_line_start s n) x T seeds K) (sym (line_end_shown s n next shown))
    (subst (λ x. Closed x (ends_line next) T seeds K) (sym line) c)) in
    record {
      stop = stop_is_met s T table.entry from n seeds K met on (subst (λ u. MetFirst seeds K u met) all first);
      next = λ inside.
          comes_next s T table.entry from n used seeds K new on all inside
          (subst (λ x. Moved T seeds K new x used) (shown_byte s n next shown inside) v);
    }

-- THE ENDS

-- so far the ends before a place were found
pub record FoundTo (s : List ℕ) (t : Tree) (window : Window) (from found : List ℕ) (n : ℕ) : Type 0 where
  pub sound : (q : ℕ) → Contains found q → IsReached (LeadsInside s t window) from q
  pub complete : (q : ℕ) → q < n → IsReached (LeadsInside s t window) from q → Contains found q

module _ (s : List ℕ) (t : Tree) (window : Window) (from : List ℕ) (ahead : window.direction ≡ Ahead)
    (within : window.high ≤ length s) (inside : All (IsInside window) from) (nodes : List code.EreNode) (entry : ℕ)
    (leads_as : LeadsAs nodes entry t) where
  -- a place of the window is an end where a path arrives at the stop there
  end_is : (q : ℕ) → q ≤ window.high → Arrives s (node_at nodes) entry from q 0
      → IsReached (LeadsInside s t window) from q
  end_is q high arrived =
      let lies = All-contains (IsInside window) from arrived.0 inside arrived.1 in
      let on = goes_on s (node_at nodes) arrived.2.0 entry arrived.0 0 q arrived.2.1 in
      let span = leads_as.sound s arrived.0 q (omega (arith, lies.1, within)) arrived.2 in (
        arrived.0,
        arrived.1,
        (subst (λ d. places.Leads s t d arrived.0 q) (sym ahead) span, (omega (arith, lies.0, on), high)),
      )

  pub is_end : (q h : ℕ) → LeadsInside s t window h q → Leads s (node_at nodes) entry h 0 q
  is_end q h leads = leads_as.complete s h q (subst (λ d. places.Leads s t d h q) ahead leads.0)

  -- nothing ends before the first of the places
  pub found_first : (first : ℕ) → All (λ p. first ≤ p) from → FoundTo s t window from [] first
  found_first first least = record {
    sound = λ q at. absurd (omega (arith, at.1));
    complete = λ q before reached.
        let leads = is_end q reached.0 reached.2 in
        let on = goes_on s (node_at nodes) leads.0 entry reached.0 0 q leads.1 in
        absurd (omega (arith, before, on, All-contains (λ p. first ≤ p) from reached.0 least reached.1));
  }

  pub found_here : (n : ℕ) (found : List ℕ) → n ≤ window.high → Arrives s (node_at nodes) entry from n 0
      → FoundTo s t window from found n → FoundTo s t window from (found ++ n ∷ []) (n + 1)
  found_here n found high arrived so = record {
    sound = λ q at. elim (Contains-push_cases found n q at) [
      | inl old ↦ so.sound q old
      | inr new ↦ subst (IsReached (LeadsInside s t window) from) new (end_is n high arrived)
    ];
    complete = λ q before reached. elim (cases_lt q n) [
      | inl old ↦ Contains-append_left found (n ∷ []) q (so.complete q old reached)
      | inr here ↦
          let same : q ≡ n = omega (arith, before, here) in
          subst (Contains (found ++ n ∷ [])) (sym same) (Contains-push found n)
    ];
  }

  pub found_none_here : (n : ℕ) (found : List ℕ) → (Arrives s (node_at nodes) entry from n 0 → ⊥)
      → FoundTo s t window from found n → FoundTo s t window from found (n + 1)
  found_none_here n found nowhere so = record {
    sound = so.sound;
    complete = λ q before reached. elim (cases_lt q n) [
      | inl old ↦ so.complete q old reached
      | inr here ↦
          let same : q ≡ n = omega (arith, before, here) in
          absurd (nowhere (reached.0, reached.1, subst (λ p. Leads s (node_at nodes) entry reached.0 0 p) same (is_end q reached.0 reached.2)))
    ];
  }

  pub found_all : (n : ℕ) (found : List ℕ) → window.high < n → FoundTo s t window from found n
      → places.AreReached (LeadsInside s t window) from found
  found_all n found past so = λ q. (so.sound q, λ reached. so.complete q (omega (arith, past, reached.2.1.1)) reached)

  -- where no thread stands behind the last of the places, all was found
  pub found_no_more : (n last : ℕ) (found : List ℕ) (K : List Thread) → length K ≡ 0
      → AreOn (Stands s (node_at nodes) entry from n) K → All (λ p. p ≤ last) from → last < n → FoundTo s t window from found n
      → places.AreReached (LeadsInside s t window) from found
  found_no_more n last found K none on most behind so = λ q. (
    so.sound q,
    λ reached. elim (cases_lt q n) [
      | inl old ↦ so.complete q old reached
      | inr later ↦
          absurd (arrives_no_more s (node_at nodes) entry from n last reached.0 q K none on most behind later
          reached.1 (is_end q reached.0 reached.2))
    ],
  )

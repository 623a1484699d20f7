-- The threads of one start, step by step: a step tells whether a match ends there, and the threads behind it are those of the start.
-- The first step is made while a match is sought, since it is what begins the start; all others as behind a match of it.
-- The hard one is `alone_next`, where the slot of a start that would begin has no thread.
use Rattle.std.proofs.Common.{◌≡◌, ℕ, ◌+◌, ◌<◌, ◌≤◌, ◌↔◌, ◌==◌, ◌&&◌, if◌then◌else◌, Bool, true, false, Option, Some, None, is_some, is_none, List, [], ◌∷◌, ◌++◌, length, take, get_or, refl, sym, ap, ◌∙◌, subst, inl, inr, arith, slice_index, eq-eqb, ne_eqb, true≢false}
use Rattle.std.proofs.lemmas.Bool.{cases_lt}
use Rattle.std.proofs.lemmas.Option.{none-some}
use Rattle.std.specs.List.{All, Contains}
use Rattle.std.proofs.lemmas.List.Elements.{All-cons, All-contains, All-nil}
use Rattle.ere_tree.specs.Derivation.{is_line_start}
use Rattle.ere_tree.specs.Tree.{Tree}
use Rattle.ere_tree.proofs.CapturesLemmas.{some_same}
use Rattle.ere_table.specs.Node.{Node, node_at}
use Rattle.ere_table.specs.Path.{Leads, LeadsAs}
use Rattle.ere_places.specs.Places.{AreBoth, AreReached, IsInside, IsReached, LeadsInside}
use Rattle.ere_places.specs.declared.window.Direction.TheVariants.{Ahead}
use Rattle.ere_places.specs.declared.window.Window.{Window}
use Rattle.ere_places.proofs.ListLemmas.{taken}
use Rattle.ere_auto.specs.Alone.{IsAlone, Meets, EndsStarts}
use Rattle.ere_auto.specs.Closure.{origin_in, Counts}
use Rattle.ere_auto.specs.RowTable.{AreSteps}
use Rattle.ere_auto.specs.Seen.{State, IsFor, Fresh}
use Rattle.ere_auto.specs.Step.{Shows, Begun, limit_behind, StopsBy, StandsAt, IsStep}
use Rattle.ere_auto.specs.declared.thread.Thread.{Thread}
use Rattle.ere_auto.proofs.EdgeLemmas.{crosses, goes_on}
use Rattle.ere_auto.proofs.EndsLemmas.{FoundTo, found_all, found_first, found_here, found_none_here, is_end}
use Rattle.ere_auto.proofs.SeenLemmas.{line_behind, no_thread}
use Rattle.ere_auto.proofs.StepLemmas.{opened_before, shown_byte}

-- ONE STEP

-- where one start alone can stop, it stops where a thread was met
met_alone : (Counted : ℕ → Type 0) (σ : ℕ → ℕ) (Stops : ℕ → Type 0) (met : Option ℕ) (p : ℕ) → StopsBy Counted σ Stops met
    → Counted p → ((h : ℕ) → Counted h → Stops h → h ≡ p) → (is_some met ≡ true) ↔ Stops p
met_alone Counted σ Stops None p by counted only =
    (λ some. absurd (true≢false (sym some)), λ stops. absurd (by p counted stops))
met_alone Counted σ Stops (Some m) p by counted only =
    (λ some. subst Stops (only (σ m) by.0 by.1) by.1, λ stops. refl)

-- behind the place at which the start began, no other one counts
narrowed : (s : List ℕ) (T : ℕ → Node) (e p : ℕ) (σ : ℕ → ℕ) (K : List Thread) → StandsAt s T e p (p + 1) None σ K
    → StandsAt s T e p (p + 1) (Some p) σ K
narrowed s T e p σ K at = record {
  follows = record {
    arrives = at.follows.arrives;
    begins = at.follows.begins;
    counts = λ x l. omega (arith, opened_before s T e (p + 1) _ _ (at.follows.arrives x l));
    complete = λ h q b c came. at.follows.complete h q b tt came;
    rises = at.follows.rises;
  };
  apart = at.apart;
  past = omega arith;
}

-- the start that was met is the one
still_alone : (s : List ℕ) (T : ℕ → Node) (e p n : ℕ) (τ : ℕ → ℕ) (met : Option ℕ) (L : List Thread)
    → StopsBy (λ h. (p ≤ h) × Counts (Some p) h) τ (λ h. Leads s T e h 0 n) met
    → StandsAt s T e p (n + 1) (limit_behind (Some p) τ met) τ L → IsAlone s T e p (n + 1) L
still_alone s T e p n τ None L by at = record { start = τ; stands = at }
still_alone s T e p n τ (Some m) L by at =
    let same : τ m ≡ p = omega (arith, by.0.0, by.0.1) in
    record { start = τ; stands = subst (λ h. StandsAt s T e p (n + 1) (Some h) τ L) same at }

-- what a step tells of the one start
pub record Steps (s : List ℕ) (T : ℕ → Node) (e p n : ℕ) (L : List Thread) (met : Option ℕ) : Type 0 where
  pub stop : (is_some met ≡ true) ↔ Leads s T e p 0 n
  pub alone : n < length s → IsAlone s T e p (n + 1) L

pub alone_first : (s : List ℕ) (T : ℕ → Node) (e p : ℕ) (L : List Thread) (next begun met : Option ℕ) (starts : Bool)
    → IsStep T e [] L starts true next begun met → is_line_start s p ≡ starts → Shows s p next → Steps s T e p p L met
alone_first s T e p L next begun met starts step line shown =
    let one : ℕ → ℕ = λ slot. p in
    let at = no_thread s T e p p None one (omega arith) tt in
    let first : Begun one one [] begun p = record { same = λ x l. refl; here = λ slot is. refl } in
    record {
      stop =
          met_alone (λ h. (p ≤ h) × Counts None h) one (λ h. Leads s T e h 0 p) met p
          (step.stops s p p None one one (omega arith) refl at line shown first) (omega arith, tt)
          (λ h counted leads. omega (arith, counted.0, goes_on s T leads.0 e h 0 p leads.1));
      alone = λ inside.
          let moved = step.moves s p p None one one (omega arith) refl at line shown first inside in
          record { start = one; stands = limited s T e p one met L moved (λ slot. refl) };
    }
  where
    limited : (s : List ℕ) (T : ℕ → Node) (e p : ℕ) (σ : ℕ → ℕ) (met : Option ℕ) (L : List Thread)
        → StandsAt s T e p (p + 1) (limit_behind None σ met) σ L → ((slot : ℕ) → σ slot ≡ p)
        → StandsAt s T e p (p + 1) (Some p) σ L
    limited s T e p σ None L at one = narrowed s T e p σ L at
    limited s T e p σ (Some m) L at one = subst (λ h. StandsAt s T e p (p + 1) (Some h) σ L) (one m) at

-- a slot that no thread has may get any start
begun_at : (σ : ℕ → ℕ) (K : List Thread) (begun : Option ℕ) (n : ℕ)
    → ((slot : ℕ) → begun ≡ Some slot → (x : ℕ) → x < length K → origin_in K x ≡ slot → ⊥) → (τ : ℕ → ℕ) × Begun σ τ K begun n
begun_at σ K None n free = (σ, record { same = λ x l. refl; here = λ slot is. absurd (none-some slot is) })
begun_at σ K (Some one) n free = (
  λ slot. if slot == one then n else σ slot,
  record {
    same = λ x l.
        ap (λ b. if b then n else σ (origin_in K x)) (ne_eqb (origin_in K x) one (λ same. free one refl x l same));
    here = λ slot is. ap (λ b. if b then n else σ slot) (eq-eqb slot one (sym (some_same one slot is)));
  },
)

pub alone_next : (s : List ℕ) (T : ℕ → Node) (e p n : ℕ) (K L : List Thread) (next begun met : Option ℕ) (starts : Bool)
    → IsAlone s T e p n K → p < n → IsStep T e K L starts false next begun met → is_line_start s n ≡ starts
    → Shows s n next → Steps s T e p n L met
alone_next s T e p n K L next begun met starts alone behind step line shown =
    let first = begun_at alone.start K begun n step.free in
    let low : p ≤ n = omega (arith, behind) in
    let by = step.stops s p n (Some p) alone.start first.0 low refl alone.stands line shown first.1 in
    record {
      stop =
          met_alone (λ h. (p ≤ h) × Counts (Some p) h) first.0 (λ h. Leads s T e h 0 n) met p by
          (omega arith, omega arith) (λ h counted leads. omega (arith, counted.0, counted.1));
      alone = λ inside.
          still_alone s T e p n first.0 met L by
          (step.moves s p n (Some p) alone.start first.0 low refl alone.stands line shown first.1 inside);
    }

-- where no thread is left, no match ends any more
pub alone_over : (s : List ℕ) (T : ℕ → Node) (e p n q : ℕ) (K : List Thread) → IsAlone s T e p n K → length K ≡ 0 → p < n
    → n ≤ q → Leads s T e p 0 q → ⊥
alone_over s T e p n q K alone none behind later leads =
    let opened = crosses s T leads.0 e p 0 q n leads.1 behind later in
    let has = alone.stands.follows.complete p opened.0 (omega arith) (omega arith) opened.1 in
    omega (arith, has.inside, none)

-- THE STATES

-- The automaton follows one start: the ends before a place of the window were found, and there its threads are those of the start.
pub record AloneAt (b : State) (t : Tree) (s : List ℕ) (window : Window) (p n : ℕ) (ends : List ℕ) : Type 0 where
  pub expression : IsFor b t
  pub searching : n ≤ window.high → b.searching ≡ false
  pub line : n ≤ window.high → is_line_start s n ≡ b.line
  pub alone : n ≤ window.high → IsAlone s (node_at b.nodes) b.entry p n b.threads
  pub found : FoundTo s t window (p ∷ []) ends n

-- an automaton with the same table is for the same expression
for_same : (a b : State) (t : Tree) → IsFor a t → b.nodes ≡ a.nodes → b.entry ≡ a.entry
    → AreSteps (node_at a.nodes) a.entry b.kept → IsFor b t
for_same a b t of nodes entry steps = record {
  leads = subst (λ xs. LeadsAs xs b.entry t) (sym nodes) (subst (λ x. LeadsAs a.nodes x t) (sym entry) of.leads);
  steps =
      subst (λ xs. AreSteps (node_at xs) b.entry b.kept) (sym nodes)
      (subst (λ x. AreSteps (node_at a.nodes) x b.kept) (sym entry) steps);
}

pub for_fresh : (a b : State) (t : Tree) (n : ℕ) (line : Bool) → Fresh a b n line → IsFor a t → IsFor b t
for_fresh a b t n line fresh of =
    for_same a b t of fresh.nodes fresh.entry (subst (AreSteps (node_at a.nodes) a.entry) (sym fresh.kept) of.steps)

pub for_met : (a b : State) (t : Tree) (next : Option ℕ) (stops : Bool) → IsFor a t → Meets a b next stops → IsFor b t
for_met a b t next stops of meets = for_same a b t of meets.nodes meets.entry meets.steps

pub for_ended : (a b : State) (t : Tree) → IsFor a t → EndsStarts a b → IsFor b t
for_ended a b t of ends = for_same a b t of ends.nodes ends.entry ends.steps

-- the place itself is one of one place
one_place : (p : ℕ) → Contains (p ∷ []) p
one_place p = (0, omega arith, refl)

only_place : (p h : ℕ) → Contains (p ∷ []) h → h ≡ p
only_place p h has = All-contains (λ x. x ≡ p) (p ∷ []) h (All-cons (λ x. x ≡ p) p [] refl (All-nil (λ x. x ≡ p))) has

-- what a step of the automaton tells of the one start
pub record Tells (b c : State) (s : List ℕ) (p n : ℕ) (stops : Bool) : Type 0 where
  pub stop : (stops ≡ true) ↔ Leads s (node_at b.nodes) b.entry p 0 n
  pub alone : n < length s → IsAlone s (node_at c.nodes) c.entry p (n + 1) c.threads
  pub line : n < length s → is_line_start s (n + 1) ≡ c.line
  pub searching : n < length s → b.searching ≡ false → c.searching ≡ false

tells : (b c : State) (s : List ℕ) (p n : ℕ) (next : Option ℕ) (stops : Bool) (meets : Meets b c next stops) → Shows s n next
    → Steps s (node_at b.nodes) b.entry p n meets.threads meets.met → Tells b c s p n stops
tells b c s p n next stops meets shown steps = record {
  stop = (λ yes. steps.stop.0 (sym meets.stop ∙ yes), λ leads. meets.stop ∙ steps.stop.1 leads);
  alone = λ inside.
      let behind = meets.behind (slice_index s n) (shown_byte s n next shown inside) in
      subst (IsAlone s (node_at c.nodes) c.entry p (n + 1)) (sym behind.0)
      (subst (λ x. IsAlone s (node_at x) c.entry p (n + 1) meets.threads) (sym meets.nodes)
      (subst (λ x. IsAlone s (node_at b.nodes) x p (n + 1) meets.threads) (sym meets.entry) (steps.alone inside)));
  line = λ inside.
      let behind = meets.behind (slice_index s n) (shown_byte s n next shown inside) in
      line_behind s n (slice_index s n) refl ∙ sym behind.1;
  searching = λ inside off.
      let behind = meets.behind (slice_index s n) (shown_byte s n next shown inside) in
      behind.2 ∙ ap (λ x. x && is_none meets.met) off;
}

pub first_tells : (a b c : State) (s : List ℕ) (p : ℕ) (next : Option ℕ) (stops starts : Bool) → Fresh a b p starts
    → is_line_start s p ≡ starts → Meets b c next stops → Shows s p next → Tells b c s p p stops
first_tells a b c s p next stops starts fresh line meets shown =
    let T = node_at b.nodes in
    tells b c s p p next stops meets shown
    (alone_first s T b.entry p meets.threads next meets.begun meets.met starts
    (subst (λ x. IsStep T b.entry [] meets.threads starts x next meets.begun meets.met) fresh.searching
    (subst (λ x. IsStep T b.entry [] meets.threads x b.searching next meets.begun meets.met) fresh.line
    (subst (λ x. IsStep T b.entry x meets.threads b.line b.searching next meets.begun meets.met) fresh.threads meets.step)))
    line shown)

pub next_tells : (b c : State) (t : Tree) (s : List ℕ) (window : Window) (p n : ℕ) (found : List ℕ) (next : Option ℕ)
    (stops : Bool) → AloneAt b t s window p n found → n ≤ window.high → p < n → Meets b c next stops → Shows s n next
    → Tells b c s p n stops
next_tells b c t s window p n found next stops at high behind meets shown =
    let T = node_at b.nodes in
    tells b c s p n next stops meets shown
    (alone_next s T b.entry p n b.threads meets.threads next meets.begun meets.met b.line (at.alone high) behind
    (subst (λ x. IsStep T b.entry b.threads meets.threads b.line x next meets.begun meets.met) (at.searching high) meets.step)
    (at.line high) shown)

module _ (s : List ℕ) (t : Tree) (window : Window) (p : ℕ) (ahead : window.direction ≡ Ahead) (within : window.high ≤ length s)
    (lies : IsInside window p) where
  inside : All (IsInside window) (p ∷ [])
  inside = All-cons (IsInside window) p [] lies (All-nil (IsInside window))

  pub found_before : (b : State) → IsFor b t → FoundTo s t window (p ∷ []) [] p
  found_before b of =
      found_first s t window (p ∷ []) ahead within inside b.nodes b.entry of.leads p
      (All-cons (λ x. p ≤ x) p [] (omega arith) (All-nil (λ x. p ≤ x)))

  pub found_stop : (b c : State) (n : ℕ) (found : List ℕ) (stops : Bool) → IsFor b t → Tells b c s p n stops → n ≤ window.high
      → stops ≡ true → FoundTo s t window (p ∷ []) found n → FoundTo s t window (p ∷ []) (found ++ n ∷ []) (n + 1)
  found_stop b c n found stops of told high is so =
      found_here s t window (p ∷ []) ahead within inside b.nodes b.entry of.leads n found high
      (p, one_place p, told.stop.0 is) so

  pub found_no_stop : (b c : State) (n : ℕ) (found : List ℕ) (stops : Bool) → IsFor b t → Tells b c s p n stops
      → stops ≡ false → FoundTo s t window (p ∷ []) found n → FoundTo s t window (p ∷ []) found (n + 1)
  found_no_stop b c n found stops of told none so =
      found_none_here s t window (p ∷ []) ahead within inside b.nodes b.entry of.leads n found
      (λ arrived. true≢false (sym (told.stop.1 (subst (λ h. Leads s (node_at b.nodes) b.entry h 0 n)
      (only_place p arrived.0 arrived.1) arrived.2)) ∙ none)) so

  -- behind the first step no start begins
  pub alone_begun : (a b c d : State) (starts : Bool) (next : Option ℕ) (stops : Bool) (found : List ℕ) → IsFor a t
      → Fresh a b p starts → Meets b c next stops → Tells b c s p p stops → EndsStarts c d
      → FoundTo s t window (p ∷ []) found (p + 1) → AloneAt d t s window p (p + 1) found
  alone_begun a b c d starts next stops found of fresh meets told ends so = record {
    expression = for_ended c d t (for_met b c t next stops (for_fresh a b t p starts fresh of) meets) ends;
    searching = λ high. ends.searching;
    line = λ high. told.line (omega (arith, high, within)) ∙ sym ends.line;
    alone = λ high.
        subst (IsAlone s (node_at d.nodes) d.entry p (p + 1)) (sym ends.threads)
        (subst (λ x. IsAlone s (node_at x) d.entry p (p + 1) c.threads) (sym ends.nodes)
        (subst (λ x. IsAlone s (node_at c.nodes) x p (p + 1) c.threads) (sym ends.entry)
        (told.alone (omega (arith, high, within)))));
    found = so;
  }

  pub alone_more : (b c : State) (n : ℕ) (next : Option ℕ) (stops : Bool) (found new : List ℕ)
      → AloneAt b t s window p n found → n ≤ window.high → Meets b c next stops → Tells b c s p n stops
      → FoundTo s t window (p ∷ []) new (n + 1) → AloneAt c t s window p (n + 1) new
  alone_more b c n next stops found new at high meets told so = record {
    expression = for_met b c t next stops at.expression meets;
    searching = λ fits. told.searching (omega (arith, fits, within)) (at.searching high);
    line = λ fits. told.line (omega (arith, fits, within));
    alone = λ fits. told.alone (omega (arith, fits, within));
    found = so;
  }

  pub alone_all : (b : State) (n : ℕ) (found : List ℕ) → AloneAt b t s window p n found → window.high < n
      → AreReached (LeadsInside s t window) (p ∷ []) found
  alone_all b n found at past =
      found_all s t window (p ∷ []) ahead within inside b.nodes b.entry at.expression.leads n found past at.found

  pub alone_no_more : (b : State) (n : ℕ) (found : List ℕ) → AloneAt b t s window p n found → n ≤ window.high → p < n
      → length b.threads ≡ 0 → AreReached (LeadsInside s t window) (p ∷ []) found
  alone_no_more b n found at high behind none = λ q. (
    at.found.sound q,
    λ reached. elim (cases_lt q n) [
      | inl old ↦ at.found.complete q old reached
      | inr later ↦
          let leads = is_end s t window (p ∷ []) ahead within inside b.nodes b.entry at.expression.leads q reached.0 reached.2 in
          absurd (alone_over s (node_at b.nodes) b.entry p n q b.threads (at.alone high) none behind later
          (subst (λ h. Leads s (node_at b.nodes) b.entry h 0 q) (only_place p reached.0 reached.1) leads))
    ],
  )

-- where the ends from one place more are added, the ends from all these places are found
pub one_place_more : (s : List ℕ) (t : Tree) (window : Window) (from ends old new : List ℕ) (k : ℕ) → k < length from
    → AreReached (LeadsInside s t window) (take k from) old
    → AreReached (LeadsInside s t window) (get_or from k 0 ∷ []) ends → AreBoth old ends new
    → AreReached (LeadsInside s t window) (take (k + 1) from) new
one_place_more s t window from ends old new k inside before here both q = (to, back)
  where
    to : Contains new q → IsReached (LeadsInside s t window) (take (k + 1) from) q
    to has = elim ((both q).0 has) [
      | inl was ↦
          let reached = (before q).0 was in
          (reached.0, (taken from k inside reached.0).1 (inl reached.1), reached.2)
      | inr is ↦
          let reached = (here q).0 is in
          (reached.0, (taken from k inside reached.0).1 (inr (sym (only_place (get_or from k 0) reached.0 reached.1))), reached.2)
    ]

    back : IsReached (LeadsInside s t window) (take (k + 1) from) q → Contains new q
    back reached = elim ((taken from k inside reached.0).0 reached.1) [
      | inl was ↦ (both q).1 (inl ((before q).1 (reached.0, was, reached.2)))
      | inr is ↦
          (both q).1 (inr ((here q).1 (
            get_or from k 0,
            one_place (get_or from k 0),
            subst (λ h. LeadsInside s t window h q) (sym is) reached.2,
          )))
    ]

pub no_place : (s : List ℕ) (t : Tree) (window : Window) → AreReached (LeadsInside s t window) [] []
no_place s t window q = (λ has. absurd (omega (arith, has.1)), λ reached. absurd (omega (arith, reached.1.1)))

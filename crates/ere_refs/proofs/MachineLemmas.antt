-- The stack, what is found and what is left behind, step by step as the code takes them: what stood so before a step stands so
-- behind it, and where nothing is left to be tried what is found is all. By CourseLemmas, at the spot on top.
-- The hard ones are `stands_end` and `stands_next`.
use Rattle.std.proofs.Common.{◌≡◌, ℕ, suc, ◌<◌, ◌≤◌, ◌==◌, Bool, true, false, true≢false, eqb-true, eq-eqb, Option, Some, None, List, [], ◌∷◌, ◌++◌, Vec, Global, length, map, drop, get_or, refl, sym, ap, ◌∙◌, subst, inl, inr, arith, append-nil, append_assoc}
use Rattle.std.proofs.lemmas.Bool.{cases_lt}
use Rattle.std.proofs.lemmas.List.{length-map, length_push, reverse-append, same_from_push}
use Rattle.std.proofs.lemmas.List.Elements.{All-head, All-nil, All-pop, All-push, All-tail, Contains-push_cases}
use Rattle.std.specs.List.{All, Contains}
use Rattle.std.specs.Ordering.{ordering_reverse}
use Rattle.ere_captures.proofs.BestLemmas.{equal_not_less}
use Rattle.ere_tree.specs.Captures.{Captures, caps_of}
use Rattle.ere_tree.specs.Derivation.{Way, Ways, Derives, DerivesEach, count_of, leaf, parts, members, chosen, inside, done, next}
use Rattle.ere_tree.specs.Preference.{within, in_order}
use Rattle.ere_tree.specs.Tree.{Tree}
use Rattle.ere_tree.specs.View.{view}
use Rattle.std.specs.Option.{option_map}
use Rattle.std.specs.Prelude.{◌-◌, IfSome, reverse}
use Rattle.ere_tree.specs.declared.hit.Cap.{Cap}
use Rattle.ere_refs.proofs.CourseLemmas.{AllAre, all_found, found_like, grown, like_put, reached_drop, reached_end, reached_next, reached_open, spots_grow, told_drop, told_end, told_next, told_open}
use Rattle.ere_refs.proofs.OverLemmas.{not_end}
use Rattle.ere_refs.proofs.RowLemmas.{sure_or_not}
use Rattle.ere_tree.proofs.DerivationLemmas.{is_part}
use Rattle.ere_refs.proofs.ListedLemmas.{all_derive, less_not_greater}
use Rattle.ere_refs.specs.Course.{AllGrow, Fits, Reached, Rows, Spot, Told, spots_at}
use Rattle.ere_refs.specs.Lists.{AllDerive, HasLike, Listed, ListsOver, StandsIn, lists_of}
use Rattle.ere_refs.specs.Machine.{AllBelow, FrameFits, HasLikeState, IsAtEnd, IsDone, IsLeft, NextFits, WholeRow, count_in, new_frame, OpenFits, PutsCaps, Show, Stands, caps_at, rest_in, rest_of, spot_in, state_in, tree_of, wrap_of}
use Rattle.ere_refs.specs.Site.{AreLong}
use Rattle.ere_refs.specs.declared.lists.Course.{Course}
use Rattle.ere_refs.proofs.FoundLemmas.{long_as, put_listed}
use Rattle.ere_refs.specs.declared.held.Part.{Part}
use Rattle.ere_refs.specs.declared.kept.State.{State}
use Rattle.ere_refs.specs.declared.lists.Frame.{Frame}
use Rattle.ere_refs.specs.declared.lists.Frame.TheVariants.{New, Open}
use Rattle.ere_refs.specs.Over.{may_be}
use Rattle.ere_refs.specs.declared.lists.Opened.{Opened}
use Rattle.ere_refs.specs.declared.row.Row.{Row}
use Rattle.ere_refs.specs.declared.row.Row.TheVariants.{Members, Parts}

pub order_of : (row : Row) (us vs : Ways) → within (wrap_of row us) (wrap_of row vs) ≡ in_order us vs
order_of (Parts all) us vs = refl
order_of (Members inner least most) us vs = refl

-- the frame on top stands at the first spot
pub top_of : (start count : ℕ) (frames : List Frame) (frame : Frame) (spots : List Spot)
    → Show start count (frames ++ frame ∷ []) spots
    → (us : Ways) × (d : Captures) × (rest : List Spot) × (spots ≡ spot_in frame us d ∷ rest)
    × (caps_at (state_in frame) ≡ caps_of start d count) × Show start count frames rest
top_of start count frames frame [] shown =
    let none = ap length shown in
    let long = length_push frames frame in
    absurd (omega (arith, none, long))
top_of start count frames frame (spot ∷ spots) (below, top, is, stands, caps, more) =
    let same = same_from_push frames below frame top is in (
      spot.ways,
      spot.caps,
      spots,
      ap (λ x. x ∷ spots) (stands ∙ ap (λ x. spot_in x spot.ways spot.caps) (sym same.1)),
      ap (λ x. caps_at (state_in x)) same.1 ∙ caps,
      subst (λ xs. Show start count xs spots) (sym same.0) more,
    )

pub is_at_end : (p j : ℕ) → p ≤ j → IsAtEnd (p == j) p j
is_at_end p j low = each (p == j) refl
  where
    each : (b : Bool) → (p == j) ≡ b → IsAtEnd b p j
    each true e = eqb-true p j e
    each false e = elim (cases_lt p j) [
      | inl short ↦ short
      | inr past ↦
          let same : p ≡ j = omega (arith, low, past) in
          absurd (true≢false (sym (eq-eqb p j same) ∙ e))
    ]

all_of : (most : Option ℕ) (n : ℕ) → IfSome (option_map (λ m. m - 0) most) (λ x. n ≤ x) → IfSome most (λ x. n ≤ x)
all_of None n h = tt
all_of (Some most) n h = omega (arith, h)

-- what derives a row from its beginning derives its tree
pub derived_of : (s : List ℕ) (row : Row) (i j : ℕ) (c d : Captures) (us : Ways) → rest_of row s j 0 us i c d
    → Derives s (tree_of row) (wrap_of row us) i j c d
derived_of s (Parts all) i j c d us h = h
derived_of s (Members inner least most) i j c d us h =
    let none : least - 0 ≡ least = omega arith in
    ((omega (arith, h.0.0), all_of most (count_of us) h.0.1), subst (λ n. DerivesEach s (view inner.now) n us i j c d) none h.1)

-- new frames on a stack, the first of them on top, stand at the spots of a member
stack_shown : (start count : ℕ) (us : Ways) (m to : ℕ) (lists : List (Vec (Option Cap) Global)) (ys : Listed)
    (frames : List Frame) (spots : List Spot) → map (λ held. held.items) lists ≡ lists_of start count ys
    → Show start count frames spots
    → Show start count (frames ++ reverse (map (new_frame m to) lists)) (spots_at us m to ys ++ spots)
stack_shown start count us m to [] [] frames spots held shown =
    subst (λ xs. Show start count xs spots) (sym (append-nil frames)) shown
stack_shown start count us m to (x ∷ lists) [] frames spots held shown =
    let long = ap length held in absurd (omega (arith, long))
stack_shown start count us m to [] (y ∷ ys) frames spots held shown =
    let long = ap length held in absurd (omega (arith, long))
stack_shown start count us m to (x ∷ lists) (y ∷ ys) frames spots held shown = (
  frames ++ reverse (map (new_frame m to) lists),
  new_frame m to x,
  ap (λ xs. frames ++ xs) (reverse-append (new_frame m to x ∷ []) (map (new_frame m to) lists))
      ∙ sym (append_assoc frames (reverse (map (new_frame m to) lists)) (new_frame m to x ∷ [])),
  refl,
  ap (λ xs. get_or xs 0 []) held,
  stack_shown start count us m to lists ys frames spots (ap (drop 1) held) shown,
)

all_are : (s : List ℕ) (t : Tree) (i j : ℕ) (c : Captures) (ys : Listed) → AllDerive s t i j c ys
    → AllAre (λ w b. Derives s t w i j c b) ys
all_are s t i j c [] h = tt
all_are s t i j c (y ∷ ys) h = (h.0, all_are s t i j c ys h.1)

as_counted : (most : Option ℕ) (n : ℕ) → IfSome most (λ x. n ≤ x) → IfSome (option_map (λ m. m - 0) most) (λ x. n ≤ x)
as_counted None n h = tt
as_counted (Some most) n h = omega (arith, h)

-- a derivation of a row's tree is a row from its beginning
pub way_of_row : (s : List ℕ) (row : Row) (i j : ℕ) (c d : Captures) (v : Way) → Derives s (tree_of row) v i j c d
    → (us : Ways) × (v ≡ wrap_of row us) × rest_of row s j 0 us i c d
way_of_row s (Parts all) i j c d (parts us) h = (us, refl, h)
way_of_row s (Parts all) i j c d leaf h = absurd h
way_of_row s (Parts all) i j c d (members us) h = absurd h
way_of_row s (Parts all) i j c d (chosen k v) h = absurd h
way_of_row s (Parts all) i j c d (inside v) h = absurd h
way_of_row s (Members inner least most) i j c d (members us) h =
    let none : least ≡ least - 0 = omega arith in (
      us,
      refl,
      ((omega (arith, h.0.0), as_counted most (count_of us) h.0.1), subst (λ n. DerivesEach s (view inner.now) n us i j c d) none h.1),
    )
way_of_row s (Members inner least most) i j c d leaf h = absurd h
way_of_row s (Members inner least most) i j c d (parts us) h = absurd h
way_of_row s (Members inner least most) i j c d (chosen k v) h = absurd h
way_of_row s (Members inner least most) i j c d (inside v) h = absurd h

-- an opened state of which one end less is left
abbrev pub at_high : Opened → ℕ → Opened
at_high one to = record { state = one.state; next = one.next; ends = one.ends; low = one.low; high = to }

pub still_fits : (course : Course) (one : Opened) (to : ℕ) → OpenFits course one → one.high ≡ suc to
    → OpenFits course (at_high one to)
still_fits course one to fits high = record {
  follows = fits.follows;
  ends = record {
    state = fits.ends.state;
    ends = fits.ends.ends;
    holds = fits.ends.holds;
    behind = fits.ends.behind;
    high = omega (arith, high, fits.ends.high);
  };
  room = fits.room;
  small = fits.small;
}

module _ (course : Course) (c : Captures) where
  abbrev s : List ℕ
  s = course.site.text.now

  abbrev part : Part
  part = course.site.part

  abbrev count : ℕ
  count = count_in course

  abbrev R : Rows
  R = rest_in course

  abbrev P : ℕ → Type 0
  P = Contains course.site.live.now

  abbrev wrap : Ways → Way
  wrap = wrap_of course.row

  abbrev S : Ways → Captures → Type 0
  S = WholeRow course c

  -- a new state from which all is found, or nothing goes on
  pub stands_drop : (state : State) (frames : List Frame) (found left : List State)
      → (st : Stands course c (frames ++ New state ∷ []) found left)
      → ((d : Captures) → caps_at state ≡ caps_of part.start d count → (rs : Ways) (e : Captures)
      → R state.stage rs state.place d e → HasLike P e st.listed)
      → Stands course c frames found left
  stands_drop state frames found left st like =
      let top = top_of part.start count frames (New state) st.spots st.shown in
      let spot = spot_in (New state) top.0 top.1 in
      let all = λ (rs : Ways) (e : Captures) (r : R spot.stage rs spot.place spot.caps e) (f : Fits spot.below rs).
      like top.1 top.4 rs e r in
      record {
        spots = top.2;
        listed = st.listed;
        shown = top.5;
        held = st.held;
        reached = λ vs d r. reached_drop R P wrap (order_of course.row) vs d st.listed spot top.2 all
            (subst (Reached R P wrap vs d st.listed) top.3 (st.reached vs d r));
        told = told_drop R P st.listed spot top.2 all (subst (Told R P st.listed []) top.3 st.told);
        left_all = st.left_all;
        grows = (subst (AllGrow R S) top.3 st.grows).1;
        derived = st.derived;
      }

  -- a new state like one that was left behind
  pub stands_like : (state : State) (frames : List Frame) (found left : List State)
      → (st : Stands course c (frames ++ New state ∷ []) found left) → (t : Tree) (further : Bool) (m : ℕ)
      (before behind : List ℕ) → NextFits s (R) P state.stage state.place part.to t further m
      before behind → HasLikeState before left state → Stands course c frames found left
  stands_like state frames found left st t further m before behind follows like =
      let x = like.0 in
      let was = st.left_all x like.1 in
      stands_drop state frames found left st
      (λ d is rs e rest. found_like R P st.listed state.stage state.place d was.0
      (λ us f r. was.2 us f (subst (λ n. R n us x.place was.0 f) (sym like.2.0)
      (subst (λ p. R state.stage us p was.0 f) (sym like.2.1) r)))
      (λ us f r. follows.same_before d was.0 f us
      (λ n has. sym (like.2.2 part.start was.0 d (long_as part.start count (caps_at x) was.0 was.1)
      (long_as part.start count (caps_at state) d is) n has)) r) rs e rest)

  -- a state at the end of its row, whose captures are put to what is found
  pub stands_end : (state : State) (frames : List Frame) (found new left : List State)
      → (st : Stands course c (frames ++ New state ∷ []) found left) → state.place ≡ part.to
      → ((d e : Captures) (rs : Ways) → R state.stage rs part.to d e → (rs ≡ done) × (e ≡ d))
      → ((d : Captures) → R state.stage done part.to d d) → PutsCaps course.site.live.now state.caps.items found new
      → Stands course c frames new left
  stands_end state frames found new left st at ends begins puts =
      let top = top_of part.start count frames (New state) st.spots st.shown in
      let us = top.0 in
      let d = top.1 in
      let spot = spot_in (New state) us d in
      let put = put_listed course.site.live.now part.start count (wrap us) d (caps_at state) top.4 found new st.listed st.held puts in
      let last = λ (rs : Ways) (e : Captures) (r : R state.stage rs state.place d e).
      ends d e rs (subst (λ p. R state.stage rs p d e) at r) in
      let grow = subst (AllGrow R S) top.3 st.grows in
      let shows = derived_of s course.row part.from part.to c d us
      (grown R S spot grow.0 (subst (λ p. R state.stage done p d d) (sym at) (begins d))) in
      record {
        spots = top.2;
        listed = put.0;
        shown = top.5;
        held = put.2;
        reached = λ vs e r. reached_end R P wrap (order_of course.row) vs e st.listed put.0 spot top.2 last put.1
            (subst (Reached R P wrap vs e st.listed) top.3 (st.reached vs e r));
        told = told_end R P st.listed put.0 (wrap us) spot top.2 last put.1 (subst (Told R P st.listed []) top.3 st.told);
        left_all = λ x has.
            let was = st.left_all x has in
            (was.0, was.1, λ rs e r. like_put R P e st.listed put.0 (wrap us, d) put.1 (was.2 rs e r));
        grows = grow.1;
        derived = all_derive s (tree_of course.row) part.from part.to c P st.listed ((wrap us, d) ∷ []) put.0 (put.0, put.1, refl)
            st.derived (shows, tt);
      }

  -- what goes on from a state begins with an end that may be
  pub goes_to : (one : Opened) → OpenFits course one → (d : Captures)
      → caps_at one.state ≡ caps_of part.start d count → (k : ℕ) (w : Way) (rs : Ways) (e : Captures)
      → R one.state.stage (next k w rs) one.state.place d e
      → (one.state.place ≤ k) × (k ≤ part.to) × (one.next.further ≡ true → one.state.place < k) × (may_be one.ends k ≡ true)
  goes_to one fits d is k w rs e rest =
      let h = fits.follows.splits d e k w rs rest in
      let here = is_part s (view one.next.ere.now) w one.state.place k d h.0 h.1 in
      let below : k ≤ part.to = omega (arith, fits.follows.fits d e (next k w rs) rest) in (
        here.0,
        below,
        h.2,
        elim (sure_or_not (may_be one.ends k)) [
          | inl may ↦ may
          | inr not ↦
              absurd (not_end s (view one.next.ere.now) part.start one.state.place k part.to count (caps_at one.state) one.ends
              fits.ends.ends below not d is w h.0 h.1)
        ],
      )

  -- a new state that is opened
  pub stands_open : (one : Opened) (frames : List Frame) (found left : List State) → OpenFits course one
      → AllBelow part one → Stands course c (frames ++ New one.state ∷ []) found left
      → Stands course c (frames ++ Open one ∷ []) found left
  stands_open one frames found left fits below st =
      let state = one.state in
      let top = top_of part.start count frames (New state) st.spots st.shown in
      record {
        spots = spot_in (Open one) top.0 top.1 ∷ top.2;
        listed = st.listed;
        shown = (frames, Open one, refl, refl, top.4, top.5);
        held = st.held;
        reached = λ vs e r. reached_open R P wrap (order_of course.row) vs e st.listed top.0 state.stage state.place top.1 one.high top.2
            (begins top.1 top.4) (subst (Reached R P wrap vs e st.listed) top.3 (st.reached vs e r));
        told = told_open R P st.listed top.0 state.stage state.place top.1 one.high top.2 (begins top.1 top.4)
            (subst (Told R P st.listed []) top.3 st.told);
        left_all = st.left_all;
        grows = subst (AllGrow R S) top.3 st.grows;
        derived = st.derived;
      }
    where
      begins : (d : Captures) → caps_at one.state ≡ caps_of part.start d count → (rs : Ways) (e : Captures)
          → R one.state.stage rs one.state.place d e → Fits (Some one.high) rs
      begins d is done e rest = absurd (fits.follows.fits d e done rest)
      begins d is (next k w rs) e rest = let at = goes_to one fits d is k w rs e rest in below k at.0 at.1 at.3

  -- a state of which no end is left
  pub stands_leave : (one : Opened) (frames : List Frame) (found left new : List State) → OpenFits course one
      → one.high ≤ one.low → new ≡ left ++ one.state ∷ []
      → Stands course c (frames ++ Open one ∷ []) found left → Stands course c frames found new
  stands_leave one frames found left new fits low put st =
      let top = top_of part.start count frames (Open one) st.spots st.shown in
      let spot = spot_in (Open one) top.0 top.1 in
      let told = subst (Told R P st.listed []) top.3 st.told in
      let all = all_found R P st.listed spot top.2 told (none top.1 top.4) in
      record {
        spots = top.2;
        listed = st.listed;
        shown = top.5;
        held = st.held;
        reached = λ vs e r. reached_drop R P wrap (order_of course.row) vs e st.listed spot top.2 (λ rs f h fit. all rs f h)
            (subst (Reached R P wrap vs e st.listed) top.3 (st.reached vs e r));
        told = told_drop R P st.listed spot top.2 (λ rs f h fit. all rs f h) told;
        left_all = λ x has. elim (Contains-push_cases left one.state x (subst (λ xs. Contains xs x) put has)) [
          | inl earlier ↦ st.left_all x earlier
          | inr is ↦ subst (IsLeft course st.listed) is (top.1, top.4, all)
        ];
        grows = (subst (AllGrow R S) top.3 st.grows).1;
        derived = st.derived;
      }
    where
      none : (d : Captures) → caps_at one.state ≡ caps_of part.start d count → (rs : Ways) (e : Captures)
          → R one.state.stage rs one.state.place d e → Fits (Some one.high) rs → ⊥
      none d is done e rest fit = absurd fit
      none d is (next k w rs) e rest fit =
          let at = goes_to one fits d is k w rs e rest in
          omega (arith, fit, low, fits.ends.holds k at.0 at.1 at.2 at.3)

  -- one end of a state: the lists behind what follows it are put on the stack
  pub stands_next : (one : Opened) (to : ℕ) (frames : List Frame) (found left : List State)
      (lists : List (Vec (Option Cap) Global)) → OpenFits course one → one.high ≡ suc to → one.low ≤ to
      → ListsOver s (view one.next.ere.now) part.start one.state.place to count (Contains one.next.behind.now)
      (caps_at one.state) lists → Stands course c (frames ++ Open one ∷ []) found left
      → Stands course c ((frames ++ Open (at_high one to) ∷ []) ++ reverse (map (new_frame one.next.stage to) lists)) found left
  stands_next one to frames found left lists fits high low over st =
      let Q = Contains one.next.behind.now in
      let t = view one.next.ere.now in
      let n = one.state.stage in
      let p = one.state.place in
      let m = one.next.stage in
      let top = top_of part.start count frames (Open one) st.spots st.shown in
      let us = top.0 in
      let d = top.1 in
      let ys = over d top.4 in
      let before : Spot = record { ways = us; stage = n; place = p; caps = d; below = Some (suc to) } in
      let behind : Spot = record { ways = us; stage = n; place = p; caps = d; below = Some to } in
      let at_place : ℕ → Spot = λ x. record { ways = us; stage = n; place = p; caps = d; below = Some x } in
      let is : st.spots ≡ before ∷ top.2 = top.3 ∙ ap (λ x. at_place x ∷ top.2) high in
      let splits : (w : Way) (rs : Ways) (e : Captures) → R n (next to w rs) p d e
      → (b : Captures) × StandsIn Q w b ys.0 × R m rs to b e =
      λ w rs e r.
      let h = fits.follows.splits d e to w rs r in (h.0, ys.1.first w h.0 h.1, h.3) in
      let same = λ (rs : Ways) (b a e : Captures). fits.follows.same_behind to b a e rs in
      let grow = subst (AllGrow R S) is st.grows in
      record {
        spots = spots_at us m to ys.0 ++ behind ∷ top.2;
        listed = st.listed;
        shown = stack_shown part.start count us m to lists ys.0 _ (behind ∷ top.2) ys.2
            (frames, Open (at_high one to), refl, refl, top.4, top.5);
        held = st.held;
        reached = λ vs e r. reached_next R P wrap (order_of course.row) us n p m d to Q ys.0 splits same vs e st.listed top.2
            (subst (Reached R P wrap vs e st.listed) is (st.reached vs e r));
        told = told_next R P us n p m d to Q ys.0 splits same st.listed top.2 (subst (Told R P st.listed []) is st.told);
        left_all = st.left_all;
        grows = spots_grow R S (λ w b. Derives s t w p to d b) us n p m d to
            (λ w b rs e shows rest. fits.follows.joins d b e to w rs shows (λ yes. further yes) rest) grow.0 ys.0
            (all_are s t p to d ys.0 ys.1.each) (behind ∷ top.2) grow;
        derived = st.derived;
      }
    where
      further : one.next.further ≡ true → one.state.place < to
      further on = omega (arith, fits.ends.behind.0 on, low)

  -- nothing is left to be tried
  pub stands_done : (found left : List State) → Stands course c [] found left
      → IsDone course c found
  stands_done found left st = (
    st.listed,
    record { each = st.derived; first = λ v e h. first st.spots st.shown st.reached v e h },
    st.held,
  )
    where
      nowhere : (spots : List Spot) → Show part.start count [] spots
          → ((vs : Ways) (e : Captures) → R 0 vs part.from c e
          → Reached (R) P (wrap) vs e st.listed spots) → (vs : Ways) (e : Captures)
          → R 0 vs part.from c e → StandsIn P (wrap vs) e st.listed
      nowhere [] shown reached vs e r = elim (reached vs e r) [
        | inl here ↦ here
        | inr goes ↦ absurd goes.1
      ]
      nowhere (spot ∷ spots) (below, top, is, stands, caps, more) reached vs e r =
          let none = ap length is in
          let long = length_push below top in
          absurd (omega (arith, none, long))

      first : (spots : List Spot) → Show part.start count [] spots
          → ((vs : Ways) (e : Captures) → R 0 vs part.from c e
          → Reached (R) P (wrap) vs e st.listed spots) → (v : Way) (e : Captures)
          → Derives s (tree_of course.row) v part.from part.to c e → StandsIn P v e st.listed
      first spots shown reached v e h =
          let way = way_of_row s course.row part.from part.to c e v h in
          subst (λ x. StandsIn P x e st.listed) (sym way.1) (nowhere spots shown reached way.0 e way.2)

  -- something is found, and nothing is read behind it: what goes on from the spots adds nothing
  pub stands_enough : (frames : List Frame) (found left : List State) → Stands course c frames found left
      → course.site.live.now ≡ [] → 0 < length found → IsDone course c found
  stands_enough frames found left st none some = (
    st.listed,
    record {
      each = st.derived;
      first = λ v e h.
          let way = way_of_row s course.row part.from part.to c e v h in
          subst (λ x. StandsIn P x e st.listed) (sym way.1)
          (enough way.0 e st.listed
          (omega (arith, ap length st.held, length-map found caps_at, length-map st.listed (λ x. caps_of part.start x.1 count), some))
          (st.reached way.0 e way.2));
    },
    st.held,
  )
    where
      enough : (vs : Ways) (e : Captures) (listed : Listed) → 0 < length listed
          → Reached (R) P (wrap) vs e listed st.spots
          → StandsIn P (wrap vs) e listed
      enough vs e listed long (inl here) = here
      enough vs e [] long (inr goes) = absurd (omega (arith, long))
      enough vs e (x ∷ xs) long (inr goes) = inl (
        (λ n has. let low = (subst (λ ns. Contains ns n) none has).1 in absurd (omega (arith, low))),
        λ greater. less_not_greater (within x.0 (wrap vs)) goes.0.0 greater,
      )

  -- a row begins
  pub stands_start : (held : Vec (Option Cap) Global) → held.items ≡ caps_of part.start c count
      → Stands course c (new_frame 0 part.from held ∷ []) [] []
  stands_start held is =
      let state : State = record { stage = 0; place = part.from; caps = held } in record {
        spots = spot_in (New state) done c ∷ [];
        listed = [];
        shown = ([], New state, refl, refl, is, refl);
        held = refl;
        reached = λ vs e r.
            inr (tt, inl (done, vs, e, refl, refl, (λ greater. equal_not_less (ap ordering_reverse greater)), r, tt, λ n has. refl));
        told = ((λ rs e r not. absurd (not tt)), tt);
        left_all = λ x has. let low = has.1 in absurd (omega (arith, low));
        grows = ((λ rs e r. r), tt);
        derived = tt;
      }

-- FRAMES

-- new frames at a place of the part
pub new_fit : (course : Course) (stage to : ℕ) (lists : List (Vec (Option Cap) Global)) → course.site.part.from ≤ to
    → to ≤ course.site.part.to → AreLong (count_in course) (map (λ held. held.items) lists)
    → All (FrameFits course) (reverse (map (new_frame stage to) lists))
new_fit course stage to [] low high long = All-nil (FrameFits course)
new_fit course stage to (x ∷ lists) low high long =
    let IsLong = λ (ys : List (Option Cap)). length ys ≡ count_in course in
    let others = map (λ (held : Vec (Option Cap) Global). held.items) lists in
    subst (All (FrameFits course)) (sym (reverse-append (new_frame stage to x ∷ []) (map (new_frame stage to) lists)))
    (All-push (FrameFits course) (reverse (map (new_frame stage to) lists)) (new_frame stage to x)
    (new_fit course stage to lists low high (All-tail IsLong x.items others long))
    (low, high, All-head IsLong x.items others long))

-- a frame is taken off
pub last_fits : (P : Frame → Type 0) (all below : List Frame) (top : Frame) → all ≡ below ++ top ∷ [] → All P all
    → All P below × P top
last_fits P all below top is h = All-pop P all below (Some top) is h

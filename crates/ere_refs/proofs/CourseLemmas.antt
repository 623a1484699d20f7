-- Rows tried with a stack, the preferred first. Each row is found, or goes on from a spot of the stack (`Reached`), and what
-- was tried from a spot has its like in what is found or goes on from a spot above it (`Told`).
-- The hard ones are `spots_go_on`, for the ways of one member, and `told_next`.
use Rattle.std.proofs.Common.{◌≡◌, ℕ, suc, ◌+◌, ◌<◌, Some, None, List, [], ◌∷◌, ◌++◌, refl, sym, ap, ◌∙◌, subst, inl, inr, arith}
use Rattle.std.proofs.lemmas.Bool.{cases_lt}
use Rattle.std.specs.Cmp.{nat_cmp_is}
use Rattle.std.specs.Ordering.{nat_cmp, ordering_then}
use Rattle.std.specs.declared.cmp.Ordering.{Ordering}
use Rattle.std.specs.declared.cmp.Ordering.TheVariants.{Less, Equal, Greater}
use Rattle.ere_captures.proofs.BestLemmas.{equal_not_less}
use Rattle.ere_refs.proofs.ListedLemmas.{like_alike, like_last, like_more, put_before, put_here, put_stands, stands_like}
use Rattle.ere_refs.specs.Course.{AllGrow, Covered, Fits, Grows, OneGoesOn, OneLeadsTo, Reached, Rows, Spot, Told, followed, spot_of, spots_at}
use Rattle.ere_refs.specs.Lists.{HasLike, IsPut, Listed, StandsIn}
use Rattle.ere_refs.specs.Refers.{Agree}
use Rattle.ere_tree.proofs.PreferenceLemmas.{greater_not_less}
use Rattle.ere_tree.specs.Captures.{Captures}
use Rattle.ere_tree.specs.Derivation.{Way, Ways, done, next, count_of}
use Rattle.ere_tree.specs.Preference.{within, in_order}

-- COMPARISONS IN STEPS

then_assoc : (a b c : Ordering) → ordering_then a (ordering_then b c) ≡ ordering_then (ordering_then a b) c
then_assoc Less b c = refl
then_assoc Equal b c = refl
then_assoc Greater b c = refl

then_less : (a b : Ordering) → (a ≡ Greater → ⊥) → b ≡ Less → ordering_then a b ≡ Less
then_less Less b not less = refl
then_less Equal b not less = less
then_less Greater b not less = absurd (not refl)

then_not_greater : (a b : Ordering) → (a ≡ Greater → ⊥) → (b ≡ Greater → ⊥) → ordering_then a b ≡ Greater → ⊥
then_not_greater Less b f g e = f e
then_not_greater Equal b f g e = g e
then_not_greater Greater b f g e = f refl

then_more : (a b c : Ordering) → (b ≡ Less → c ≡ Less) → ordering_then a b ≡ Less → ordering_then a c ≡ Less
then_more Less b c f e = refl
then_more Equal b c f e = f e
then_more Greater b c f e = absurd (greater_not_less e)

equal_not_greater : Equal ≡ Greater → ⊥
equal_not_greater e = greater_not_less (sym (ap (λ o. ordering_then o Less) e))

-- ROWS BEHIND ROWS

followed_done : (us : Ways) → followed us done ≡ us
followed_done done = refl
followed_done (next k w us) = ap (next k w) (followed_done us)

followed_one : (us : Ways) (k : ℕ) (w : Way) (rs : Ways) → followed us (next k w rs) ≡ followed (followed us (next k w done)) rs
followed_one done k w rs = refl
followed_one (next m v us) k w rs = ap (next m v) (followed_one us k w rs)

count_followed : (us : Ways) (k : ℕ) (w : Way) → count_of (followed us (next k w done)) ≡ count_of us + 1
count_followed done k w = refl
count_followed (next m v us) k w = ap (λ n. n + 1) (count_followed us k w)

order_followed : (us vs xs ys : Ways) → count_of us ≡ count_of vs
    → in_order (followed us xs) (followed vs ys) ≡ ordering_then (in_order us vs) (in_order xs ys)
order_followed done done xs ys same = refl
order_followed done (next k v vs) xs ys same = absurd (omega (arith, same))
order_followed (next j w us) done xs ys same = absurd (omega (arith, same))
order_followed (next j w us) (next k v vs) xs ys same =
    ap (ordering_then (ordering_then (nat_cmp k j) (within w v)))
    (order_followed us vs xs ys (omega (arith, same)))
    ∙ then_assoc (ordering_then (nat_cmp k j) (within w v)) (in_order us vs) (in_order xs ys)

less_followed : (us vs xs : Ways) → in_order us vs ≡ Less → in_order (followed us xs) vs ≡ Less
less_followed done vs xs less = absurd (equal_not_less less)
less_followed (next j w us) done xs less = absurd (equal_not_less less)
less_followed (next j w us) (next k v vs) xs less =
    then_more (ordering_then (nat_cmp k j) (within w v)) (in_order us vs) (in_order (followed us xs) vs)
    (less_followed us vs xs) less

-- of two rows one of which goes on to a greater end, or to the same end in a preferred way
later_first : (high k : ℕ) (w v : Way) (xs ys : Ways) → k < high → in_order (next high w xs) (next k v ys) ≡ Less
later_first high k w v xs ys low =
    sym (λ i. ordering_then (ordering_then (nat_cmp_is k high Less low i) (within w v)) (in_order xs ys))

better_first : (high : ℕ) (w v : Way) (xs ys : Ways) → within w v ≡ Less → in_order (next high w xs) (next high v ys) ≡ Less
better_first high w v xs ys less =
    sym (λ i. ordering_then (ordering_then (nat_cmp_is high high Equal refl i) (sym less i)) (in_order xs ys))

same_first : (high : ℕ) (w v : Way) → in_order (next high w done) (next high v done) ≡ ordering_then (within w v) Equal
same_first high w v =
    sym (λ i. ordering_then (ordering_then (nat_cmp_is high high Equal refl i) (within w v)) Equal)

agree_trans : (P : ℕ → Type 0) (c d e : Captures) → Agree P c d → Agree P d e → Agree P c e
agree_trans P c d e f g n p = f n p ∙ g n p

module _ (Rest : Rows) (P : ℕ → Type 0) (wrap : Ways → Way)
    (order : (us vs : Ways) → within (wrap us) (wrap vs) ≡ in_order us vs) where
  -- THE END OF A ROW

  pub reached_end : (vs : Ways) (d : Captures) (found more : Listed) (spot : Spot) (spots : List Spot)
      → ((rs : Ways) (e : Captures) → Rest spot.stage rs spot.place spot.caps e → (rs ≡ done) × (e ≡ spot.caps))
      → IsPut P found (wrap spot.ways, spot.caps) more → Reached Rest P wrap vs d found (spot ∷ spots) → Reached Rest P wrap vs d more spots
  reached_end vs d found more spot spots ends put (inl h) =
      inl (put_stands P (wrap vs) d found (wrap spot.ways, spot.caps) more put h)
  reached_end vs d found more spot spots ends put (inr (before, inl goes)) =
      let us = goes.0 in
      let rs = goes.1 in
      let e = goes.2 in
      let end = ends rs e goes.6 in
      let is : vs ≡ us = goes.3 ∙ ap (followed us) end.0 ∙ followed_done us in
      inl (put_here P (wrap vs) d found (wrap spot.ways, spot.caps) more put before
      (subst (Agree P d) end.1 goes.8)
      (λ greater. goes.5 (ap (in_order spot.ways) (sym is) ∙ sym (order spot.ways vs) ∙ greater)))
  reached_end vs d found more spot spots ends put (inr (before, inr rest)) =
      inr (
        put_before P (wrap vs) found (wrap spot.ways, spot.caps) more put before (order spot.ways vs ∙ rest.0),
        rest.1,
      )

  -- A SPOT FROM WHICH ALL IS FOUND

  pub reached_drop : (vs : Ways) (d : Captures) (found : Listed) (spot : Spot) (spots : List Spot)
      → ((rs : Ways) (e : Captures) → Rest spot.stage rs spot.place spot.caps e → Fits spot.below rs → HasLike P e found)
      → Reached Rest P wrap vs d found (spot ∷ spots) → Reached Rest P wrap vs d found spots
  reached_drop vs d found spot spots like (inl h) = inl h
  reached_drop vs d found spot spots like (inr (before, inl goes)) =
      inl (stands_like P (wrap vs) d found before
      (like_alike P d goes.2 found goes.8 (like goes.1 goes.2 goes.6 goes.7)))
  reached_drop vs d found spot spots like (inr (before, inr rest)) = inr (before, rest.1)

  -- A SPOT THAT IS OPENED

  pub reached_open : (vs : Ways) (d : Captures) (found : Listed) (us : Ways) (n p : ℕ) (c : Captures) (top : ℕ)
      (spots : List Spot) → ((rs : Ways) (e : Captures) → Rest n rs p c e → Fits (Some top) rs)
      → Reached Rest P wrap vs d found ((record { ways = us; stage = n; place = p; caps = c; below = None }) ∷ spots)
      → Reached Rest P wrap vs d found ((record { ways = us; stage = n; place = p; caps = c; below = Some top }) ∷ spots)
  reached_open vs d found us n p c top spots fits (inl h) = inl h
  reached_open vs d found us n p c top spots fits (inr (before, inl goes)) =
      inr (before, inl (goes.0, goes.1, goes.2, goes.3, goes.4, goes.5, goes.6, fits goes.1 goes.2 goes.6, goes.8))
  reached_open vs d found us n p c top spots fits (inr (before, inr rest)) = inr (before, inr rest)

  -- ONE END OF A SPOT

  module _ (us : Ways) (n p m : ℕ) (c : Captures) (high : ℕ) (Q : ℕ → Type 0) (ys : Listed)
      (splits : (w : Way) (rs : Ways) (e : Captures) → Rest n (next high w rs) p c e
      → (b : Captures) × StandsIn Q w b ys × Rest m rs high b e)
      (same : (rs : Ways) (b a e : Captures) → Agree Q b a → Rest m rs high b e
      → (f : Captures) × Rest m rs high a f × Agree P e f) where
    abbrev pub before_end : Spot
    before_end = record { ways = us; stage = n; place = p; caps = c; below = Some (suc high) }

    abbrev pub behind_end : Spot
    behind_end = record { ways = us; stage = n; place = p; caps = c; below = Some high }

    -- past the spots of one member, where those are preferred
    past_spots : (vs : Ways) (d : Captures) (zs : Listed) (spots : List Spot)
        → ((w : Way) → in_order (followed us (next high w done)) vs ≡ Less)
        → OneGoesOn Rest P vs d spots → OneGoesOn Rest P vs d (spots_at us m high zs ++ spots)
    past_spots vs d [] spots less goes = goes
    past_spots vs d (z ∷ zs) spots less goes = inr (less z.0, past_spots vs d zs spots less goes)

    -- a row whose member ends there goes on from the spot of the first way that stands for its own
    spots_go_on : (vs : Ways) (d : Captures) (zs : Listed) (spots : List Spot) (xs : Ways) (w : Way) (rs : Ways)
        (b e : Captures) → vs ≡ followed xs (next high w rs) → count_of us ≡ count_of xs
        → (in_order us xs ≡ Greater → ⊥) → StandsIn Q w b zs → Rest m rs high b e → Agree P d e
        → OneGoesOn Rest P vs d (spots_at us m high zs ++ spots)
    spots_go_on vs d [] spots xs w rs b e is long least stands rest like = absurd stands
    spots_go_on vs d (z ∷ zs) spots xs w rs b e is long least (inl here) rest like =
        let other = same rs b z.1 e here.0 rest in
        inl (
          followed xs (next high w done),
          rs,
          other.0,
          is ∙ followed_one xs high w rs,
          count_followed us high z.0 ∙ ap (λ k. k + 1) long ∙ sym (count_followed xs high w),
          (λ greater. then_not_greater (in_order us xs) (in_order (next high z.0 done) (next high w done)) least
              (λ worse. then_not_greater (within z.0 w) Equal here.1 equal_not_greater (sym (same_first high z.0 w) ∙ worse))
              (sym (order_followed us xs (next high z.0 done) (next high w done) long) ∙ greater)),
          other.1,
          tt,
          agree_trans P d e other.0 like other.2,
        )
    spots_go_on vs d (z ∷ zs) spots xs w rs b e is long least (inr behind) rest like =
        inr (
          ap (in_order (followed us (next high z.0 done))) is
              ∙ order_followed us xs (next high z.0 done) (next high w rs) long
              ∙ then_less (in_order us xs) (in_order (next high z.0 done) (next high w rs)) least (better_first high z.0 w done rs behind.0),
          spots_go_on vs d zs spots xs w rs b e is long least behind.1 rest like,
        )

    pub reached_next : (vs : Ways) (d : Captures) (found : Listed) (spots : List Spot)
        → Reached Rest P wrap vs d found (before_end ∷ spots) → Reached Rest P wrap vs d found (spots_at us m high ys ++ behind_end ∷ spots)
    reached_next vs d found spots (inl h) = inl h
    reached_next vs d found spots (inr (before, inr rest)) =
        inr (
          before,
          past_spots vs d ys (behind_end ∷ spots) (λ w. less_followed us vs (next high w done) rest.0)
              (inr (rest.0, rest.1)),
        )
    reached_next vs d found spots (inr (before, inl (xs, done, e, is, long, least, rest, fits, like))) = absurd fits
    reached_next vs d found spots (inr (before, inl (xs, next k w rs, e, is, long, least, rest, fits, like))) =
        inr (
          before,
          elim (cases_lt k high) [
            | inl lower ↦
                past_spots vs d ys (behind_end ∷ spots)
                (λ v. ap (in_order (followed us (next high v done))) is
                ∙ order_followed us xs (next high v done) (next k w rs) long
                ∙ then_less (in_order us xs) (in_order (next high v done) (next k w rs)) least (later_first high k v w done rs lower))
                (inl (xs, next k w rs, e, is, long, least, rest, lower, like))
            | inr upper ↦
                let at : k ≡ high = omega (arith, upper, fits) in
                let one = splits w rs e (subst (λ x. Rest n (next x w rs) p c e) at rest) in
                spots_go_on vs d ys (behind_end ∷ spots) xs w rs one.0 e
                (is ∙ ap (λ x. followed xs (next x w rs)) at) long least one.1 one.2 like
          ],
        )

-- WHAT WAS TRIED FROM A SPOT

module _ (Rest : Rows) (P : ℕ → Type 0) where
  covered_more : (d : Captures) (found more : Listed) (above over : List Spot) (spot : Spot)
      → (Covered Rest P d found above → Covered Rest P d more over) → Covered Rest P d found (spot ∷ above) → Covered Rest P d more (spot ∷ over)
  covered_more d found more above over spot f (inl like) = elim (f (inl like)) [
    | inl x ↦ inl x
    | inr y ↦ inr (inr y)
  ]
  covered_more d found more above over spot f (inr (inl here)) = inr (inl here)
  covered_more d found more above over spot f (inr (inr rest)) = elim (f (inr rest)) [
    | inl x ↦ inl x
    | inr y ↦ inr (inr y)
  ]

  -- other spots above that cover as much
  pub told_more : (found more : Listed) (above over spots : List Spot)
      → ((d : Captures) → Covered Rest P d found above → Covered Rest P d more over) → Told Rest P found above spots → Told Rest P more over spots
  told_more found more above over [] f told = tt
  told_more found more above over (spot ∷ spots) f told = (
    (λ rs e rest gone. f e (told.0 rs e rest gone)),
    told_more found more (spot ∷ above) (spot ∷ over) spots
        (λ d. covered_more d found more above over spot (f d)) told.1,
  )

  pub like_put : (d : Captures) (found more : Listed) (y : Way × Captures) → IsPut P found y more → HasLike P d found
      → HasLike P d more
  like_put d found more y (inl put) like = subst (HasLike P d) (sym put) (like_more P d found (y ∷ []) like)
  like_put d found more y (inr dropped) like = subst (HasLike P d) (sym dropped.0) like

  like_new : (d : Captures) (found more : Listed) (y : Way × Captures) → IsPut P found y more → Agree P d y.1
      → HasLike P d more
  like_new d found more y (inl put) same =
      subst (HasLike P d) (sym put) (like_last P d found (y ∷ []) (inl same))
  like_new d found more y (inr dropped) same =
      subst (HasLike P d) (sym dropped.0) (like_alike P d y.1 found same dropped.1)

  -- THE END OF A ROW

  pub told_end : (found more : Listed) (w : Way) (spot : Spot) (spots : List Spot)
      → ((rs : Ways) (e : Captures) → Rest spot.stage rs spot.place spot.caps e → (rs ≡ done) × (e ≡ spot.caps))
      → IsPut P found (w, spot.caps) more → Told Rest P found [] (spot ∷ spots) → Told Rest P more [] spots
  told_end found more w spot spots ends put told =
      told_more found more (spot ∷ []) [] spots covers told.1
    where
      covers : (d : Captures) → Covered Rest P d found (spot ∷ []) → Covered Rest P d more []
      covers d (inl like) = inl (like_put d found more (w, spot.caps) put like)
      covers d (inr (inl here)) =
          let end = ends here.0 here.1 here.2 in
          inl (like_new d found more (w, spot.caps) put (subst (Agree P d) end.1 here.4))
      covers d (inr (inr rest)) = absurd rest

  -- A SPOT FROM WHICH ALL IS FOUND

  pub told_drop : (found : Listed) (spot : Spot) (spots : List Spot)
      → ((rs : Ways) (e : Captures) → Rest spot.stage rs spot.place spot.caps e → Fits spot.below rs → HasLike P e found)
      → Told Rest P found [] (spot ∷ spots) → Told Rest P found [] spots
  told_drop found spot spots like told = told_more found found (spot ∷ []) [] spots covers told.1
    where
      covers : (d : Captures) → Covered Rest P d found (spot ∷ []) → Covered Rest P d found []
      covers d (inl x) = inl x
      covers d (inr (inl here)) = inl (like_alike P d here.1 found here.4 (like here.0 here.1 here.2 here.3))
      covers d (inr (inr rest)) = absurd rest

  -- all that goes on from a spot is found once none of it is left to be tried
  pub all_found : (found : Listed) (spot : Spot) (spots : List Spot) → Told Rest P found [] (spot ∷ spots)
      → ((rs : Ways) (e : Captures) → Rest spot.stage rs spot.place spot.caps e → Fits spot.below rs → ⊥) → (rs : Ways)
      (e : Captures) → Rest spot.stage rs spot.place spot.caps e → HasLike P e found
  all_found found spot spots told none rs e rest = elim (told.0 rs e rest (none rs e rest)) [
    | inl like ↦ like
    | inr nowhere ↦ absurd nowhere
  ]

  -- a spot that agrees with one from which all is found
  pub found_like : (found : Listed) (n p : ℕ) (c b : Captures)
      → ((rs : Ways) (e : Captures) → Rest n rs p b e → HasLike P e found)
      → ((rs : Ways) (e : Captures) → Rest n rs p c e → (f : Captures) × Rest n rs p b f × Agree P e f) → (rs : Ways)
      (e : Captures) → Rest n rs p c e → HasLike P e found
  found_like found n p c b all same rs e rest =
      let other = same rs e rest in
      like_alike P e other.0 found other.2 (all rs other.0 other.1)

  -- A SPOT THAT IS OPENED

  pub told_open : (found : Listed) (us : Ways) (n p : ℕ) (c : Captures) (top : ℕ) (spots : List Spot)
      → ((rs : Ways) (e : Captures) → Rest n rs p c e → Fits (Some top) rs)
      → Told Rest P found [] ((record { ways = us; stage = n; place = p; caps = c; below = None }) ∷ spots)
      → Told Rest P found [] ((record { ways = us; stage = n; place = p; caps = c; below = Some top }) ∷ spots)
  told_open found us n p c top spots fits told = (
    (λ rs e rest gone. absurd (gone (fits rs e rest))),
    told_more found found
        ((record { ways = us; stage = n; place = p; caps = c; below = None }) ∷ [])
        ((record { ways = us; stage = n; place = p; caps = c; below = Some top }) ∷ []) spots covers told.1,
  )
    where
      covers : (d : Captures)
          → Covered Rest P d found ((record { ways = us; stage = n; place = p; caps = c; below = None }) ∷ [])
          → Covered Rest P d found ((record { ways = us; stage = n; place = p; caps = c; below = Some top }) ∷ [])
      covers d (inl x) = inl x
      covers d (inr (inl here)) = inr (inl (here.0, here.1, here.2, fits here.0 here.1 here.2, here.4))
      covers d (inr (inr rest)) = absurd rest

  -- ONE END OF A SPOT

  module _ (us : Ways) (n p m : ℕ) (c : Captures) (high : ℕ) (Q : ℕ → Type 0) (ys : Listed)
      (splits : (w : Way) (rs : Ways) (e : Captures) → Rest n (next high w rs) p c e
      → (b : Captures) × StandsIn Q w b ys × Rest m rs high b e)
      (same : (rs : Ways) (b a e : Captures) → Agree Q b a → Rest m rs high b e
      → (f : Captures) × Rest m rs high a f × Agree P e f) where
    abbrev pub before_told : Spot
    before_told = record { ways = us; stage = n; place = p; caps = c; below = Some (suc high) }

    abbrev pub behind_told : Spot
    behind_told = record { ways = us; stage = n; place = p; caps = c; below = Some high }

    -- the spots of one member, the last of them first
    abbrev pub stacked : Listed → List Spot → List Spot
    stacked [] above = above
    stacked (z ∷ zs) above =
        stacked zs (spot_of us m high z ∷ above)

    stacked_more : (d : Captures) (zs : Listed) (above : List Spot) → OneLeadsTo Rest P d above
        → OneLeadsTo Rest P d (stacked zs above)
    stacked_more d [] above leads = leads
    stacked_more d (z ∷ zs) above leads = stacked_more d zs (spot_of us m high z ∷ above) (inr leads)

    spots_lead : (d : Captures) (zs : Listed) (above : List Spot) (w : Way) (rs : Ways) (b e : Captures)
        → StandsIn Q w b zs → Rest m rs high b e → Agree P d e → OneLeadsTo Rest P d (stacked zs above)
    spots_lead d [] above w rs b e stands rest like = absurd stands
    spots_lead d (z ∷ zs) above w rs b e (inl here) rest like =
        let other = same rs b z.1 e here.0 rest in
        stacked_more d zs (spot_of us m high z ∷ above) (inl (rs, other.0, other.1, tt, agree_trans P d e other.0 like other.2))
    spots_lead d (z ∷ zs) above w rs b e (inr behind) rest like =
        spots_lead d zs (spot_of us m high z ∷ above) w rs b e behind.1 rest like

    -- none of what goes on from new spots was tried
    told_spots : (found : Listed) (zs : Listed) (above spots : List Spot) → Told Rest P found (stacked zs above) spots
        → Told Rest P found above (spots_at us m high zs ++ spots)
    told_spots found [] above spots told = told
    told_spots found (z ∷ zs) above spots told =
        ((λ rs e rest gone. absurd (gone tt)), told_spots found zs (spot_of us m high z ∷ above) spots told)

    pub told_next : (found : Listed) (spots : List Spot) → Told Rest P found [] (before_told ∷ spots)
        → Told Rest P found [] (spots_at us m high ys ++ behind_told ∷ spots)
    told_next found spots told =
        told_spots found ys [] (behind_told ∷ spots)
        (own, told_more found found (before_told ∷ []) (behind_told ∷ stacked ys []) spots covers told.1)
      where
        like_only : (d : Captures) (above : List Spot) → Covered Rest P d found [] → Covered Rest P d found above
        like_only d above (inl like) = inl like
        like_only d above (inr nowhere) = absurd nowhere

        own : (rs : Ways) (e : Captures) → Rest n rs p c e → (Fits (Some high) rs → ⊥) → Covered Rest P e found (stacked ys [])
        own done e rest gone = like_only e (stacked ys []) (told.0 done e rest (λ fits. fits))
        own (next k w rs) e rest gone = elim (cases_lt k (suc high)) [
          | inl low ↦ elim (cases_lt k high) [
            | inl lower ↦ absurd (gone lower)
            | inr upper ↦
                let at : k ≡ high = omega (arith, low, upper) in
                let one = splits w rs e (subst (λ x. Rest n (next x w rs) p c e) at rest) in
                inr (spots_lead e ys [] w rs one.0 e one.1 one.2 (λ q read. refl))
          ]
          | inr above ↦
              like_only e (stacked ys []) (told.0 (next k w rs) e rest (λ fits. absurd (omega (arith, fits, above))))
        ]

        covers : (d : Captures) → Covered Rest P d found (before_told ∷ []) → Covered Rest P d found (behind_told ∷ stacked ys [])
        covers d (inl x) = inl x
        covers d (inr (inl (done, e, rest, fits, like))) = absurd fits
        covers d (inr (inl (next k w rs, e, rest, fits, like))) = elim (cases_lt k high) [
          | inl lower ↦ inr (inl (next k w rs, e, rest, lower, like))
          | inr upper ↦
              let at : k ≡ high = omega (arith, fits, upper) in
              let one = splits w rs e (subst (λ x. Rest n (next x w rs) p c e) at rest) in
              inr (inr (spots_lead d ys [] w rs one.0 e one.1 one.2 like))
        ]
        covers d (inr (inr rest)) = absurd rest

-- WHAT IS FOUND IS DERIVED

-- each way of the list, with its captures
abbrev pub AllAre : (Way → Captures → Type 0) → Listed → Type 0
AllAre Member [] = Unit {0}
AllAre Member (z ∷ zs) = Member z.0 z.1 × AllAre Member zs

module _ (Rest : Rows) (Start : Ways → Captures → Type 0) where
  -- a row at its end
  pub grown : (spot : Spot) → Grows Rest Start spot → Rest spot.stage done spot.place spot.caps spot.caps
      → Start spot.ways spot.caps
  grown spot grows end =
      subst (λ us. Start us spot.caps) (followed_done spot.ways) (grows done spot.caps end)

  pub spots_grow : (Member : Way → Captures → Type 0) (us : Ways) (n p m : ℕ) (c : Captures) (high : ℕ)
      → ((w : Way) (b : Captures) (rs : Ways) (e : Captures) → Member w b → Rest m rs high b e
      → Rest n (next high w rs) p c e)
      → ((rs : Ways) (e : Captures) → Rest n rs p c e → Start (followed us rs) e) → (zs : Listed)
      → AllAre Member zs → (spots : List Spot) → AllGrow Rest Start spots → AllGrow Rest Start (spots_at us m high zs ++ spots)
  spots_grow Member us n p m c high joins grows [] are spots all = all
  spots_grow Member us n p m c high joins grows (z ∷ zs) are spots all = (
    (λ rs e rest.
        subst (λ x. Start x e) (followed_one us high z.0 rs)
        (grows (next high z.0 rs) e (joins z.0 z.1 rs e are.0 rest))),
    spots_grow Member us n p m c high joins grows zs are.1 spots all,
  )

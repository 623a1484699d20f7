-- States of the first rows of a list, one row or one place of a row after the other, and what is found from them.
-- `Gone` says: what is found comes from a state gone through so far or was there, and all is found that one of them asks
-- for. The hard one is `gone_more`: some states of one list more, with what is found from them.
use Rattle.std.proofs.Common.{◌≡◌, ◌↔◌, ℕ, ◌+◌, ◌<◌, ◌≤◌, List, [], ◌∷◌, length, get_or, take, zero, suc, refl, sym, ap, ◌∙◌, subst, inl, inr, arith, length-take}
use Rattle.std.specs.Prelude.{◌⊎◌}
use Rattle.std.specs.List.{Contains}
use Rattle.std.proofs.lemmas.List.{get_or_read, take_more, take_all}
use Rattle.std.proofs.lemmas.List.Elements.{Contains-append_left, Contains-push, Contains-push_cases}
use Rattle.ere_reach.specs.declared.held.Held.{Held}
use Rattle.ere_reach.specs.declared.row.Row.{Row}
use Rattle.ere_reach.specs.declared.rows.Rows.{Rows}
use Rattle.ere_reach.specs.Rows.{AreSame, HasAt, HasState, IsPut, States}

-- the states of so many rows; and of so many places of the row behind them
abbrev pub Taken : List Row → ℕ → States
Taken rows k h p = HasAt (λ row. row.places.items) (take k rows) h p

abbrev pub TakenIn : List Row → ℕ → List Held → List ℕ → ℕ → States
TakenIn rows k held places j h p = Taken rows k h p ⊎ ((h ≡ held) × Contains (take j places) p)

-- there are these places with one list more
abbrev pub Grows : States → List Held → List ℕ → States → Type 0
Grows old held places new = AreSame new (λ h p. old h p ⊎ ((h ≡ held) × Contains places p))

-- one element more
more_cases : {X : Type 0} (xs : List X) (k : ℕ) (d x : X) → k < length xs → Contains (take (k + 1) xs) x
    → Contains (take k xs) x ⊎ (get_or xs k d ≡ x)
more_cases xs k d x low h = Contains-push_cases (take k xs) (get_or xs k d) x
    (subst (λ ys. Contains ys x) (take_more xs k d low) h)

more_old : {X : Type 0} (xs : List X) (k : ℕ) (d x : X) → k < length xs → Contains (take k xs) x
    → Contains (take (k + 1) xs) x
more_old xs k d x low h = subst (λ ys. Contains ys x) (sym (take_more xs k d low))
    (Contains-append_left (take k xs) (get_or xs k d ∷ []) x h)

more_new : {X : Type 0} (xs : List X) (k : ℕ) (d : X) → k < length xs → Contains (take (k + 1) xs) (get_or xs k d)
more_new xs k d low = subst (λ ys. Contains ys (get_or xs k d)) (sym (take_more xs k d low))
    (Contains-push (take k xs) (get_or xs k d))

pub one_is : (place p : ℕ) → Contains (place ∷ []) p → place ≡ p
one_is place p (zero, low, same) = same
one_is place p (suc k, low, same) = absurd (omega (arith, low))

pub one_has : (p : ℕ) → Contains (p ∷ []) p
one_has p = (0, omega arith, refl)

none_taken : {X : Type 0} (xs : List X) (x : X) → Contains (take 0 xs) x → ⊥
none_taken xs x h = absurd (omega (arith, h.1, length-take 0 xs))

pub taken_none : (rows : List Row) (h : List Held) (p : ℕ) → Taken rows 0 h p → ⊥
taken_none rows h p (row, has, same, at) = none_taken rows row has

pub taken_all : (rows : List Row) (k : ℕ) → length rows ≤ k → (h : List Held) (p : ℕ)
    → HasAt (λ row. row.places.items) rows h p → Taken rows k h p
taken_all rows k past h p (row, has, same, at) =
    (row, subst (λ (all : List Row). Contains all row) (sym (take_all k rows past)) has, same, at)

pub taken_within : (rows : List Row) (k : ℕ) → length rows ≤ k → (h : List Held) (p : ℕ) → Taken rows k h p
    → HasAt (λ row. row.places.items) rows h p
taken_within rows k past h p (row, has, same, at) =
    (row, subst (λ (all : List Row). Contains all row) (take_all k rows past) has, same, at)

-- a row more
pub taken_row : (rows : List Row) (k : ℕ) (row : Row) → k < length rows → row ≡ get_or rows k row
    → Grows (Taken rows k) row.held.items row.places.items (Taken rows (k + 1))
taken_row rows k row low is h p = (to, back)
  where
    to : Taken rows (k + 1) h p → Taken rows k h p ⊎ ((h ≡ row.held.items) × Contains row.places.items p)
    to (one, has, same, at) = elim (more_cases rows k row one low has) [
      | inl old ↦ inl (one, old, same, at)
      | inr new ↦
          let e : one ≡ row = sym new ∙ sym is in
          inr (sym same ∙ ap (λ (x : Row). x.held.items) e, subst (λ (x : Row). Contains x.places.items p) e at)
    ]

    back : Taken rows k h p ⊎ ((h ≡ row.held.items) × Contains row.places.items p) → Taken rows (k + 1) h p
    back (inl (one, has, same, at)) = (one, more_old rows k row one low has, same, at)
    back (inr (same, at)) =
        (row, subst (Contains (take (k + 1) rows)) (sym is) (more_new rows k row low), sym same, at)

-- and one place after the other
pub taken_in_none : (rows : List Row) (k : ℕ) (held : List Held) (places : List ℕ)
    → AreSame (TakenIn rows k held places 0) (Taken rows k)
taken_in_none rows k held places h p =
    (λ x. elim x [ inl old ↦ old | inr new ↦ absurd (none_taken places p new.1) ], λ x. inl x)

pub taken_in_more : (rows : List Row) (k : ℕ) (held : List Held) (places : List ℕ) (j place : ℕ) → j < length places
    → place ≡ get_or places j 0 → Grows (TakenIn rows k held places j) held (place ∷ []) (TakenIn rows k held places (j + 1))
taken_in_more rows k held places j place low is h p = (to, back)
  where
    to : TakenIn rows k held places (j + 1) h p
        → TakenIn rows k held places j h p ⊎ ((h ≡ held) × Contains (place ∷ []) p)
    to (inl old) = inl (inl old)
    to (inr (same, at)) = elim (more_cases places j 0 p low at) [
      | inl old ↦ inl (inr (same, old))
      | inr new ↦ inr (same, (0, omega arith, is ∙ new))
    ]

    back : TakenIn rows k held places j h p ⊎ ((h ≡ held) × Contains (place ∷ []) p)
        → TakenIn rows k held places (j + 1) h p
    back (inl (inl old)) = inl old
    back (inl (inr (same, at))) = inr (same, more_old places j 0 p low at)
    back (inr (same, at)) = inr (
      same,
      subst (Contains (take (j + 1) places)) (sym is ∙ one_is place p at) (more_new places j 0 low),
    )

pub taken_in_all : (rows : List Row) (k : ℕ) (row : Row) (places : List ℕ) (j : ℕ) → k < length rows
    → row ≡ get_or rows k row → places ≡ row.places.items → length places ≤ j
    → AreSame (Taken rows (k + 1)) (TakenIn rows k row.held.items places j)
taken_in_all rows k row places j low is same past h p =
    subst (λ (xs : List ℕ). Taken rows (k + 1) h p ↔ (Taken rows k h p ⊎ ((h ≡ row.held.items) × Contains xs p)))
    (sym (take_all j places past ∙ same)) (taken_row rows k row low is h p)

-- the row at an index is one
pub row_same : (rows : List Row) (k : ℕ) (row other : Row) → k < length rows → row ≡ get_or rows k row
    → other ≡ get_or rows k other → row ≡ other
row_same rows k row other low is here = get_or_read rows k row low is other ∙ sym here

-- WHAT IS FOUND FROM THEM

-- what is asked for of a state stays found where more is found
abbrev pub Stays : (List Held → ℕ → States → Type 0) → Type 1
Stays Whole = (g : List Held) (p : ℕ) (F G : States) → ((h : List Held) (q : ℕ) → F h q → G h q) → Whole g p F → Whole g p G

pub record Gone (Old : States) (Step : List Held → ℕ → States) (Whole : List Held → ℕ → States → Type 0)
    (S F : States) : Type 0 where
  pub kept : (h : List Held) (q : ℕ) → Old h q → F h q
  pub sound : (h : List Held) (q : ℕ) → F h q → Old h q ⊎ ((g : List Held) × (p : ℕ) × S g p × Step g p h q)
  pub whole : (g : List Held) (p : ℕ) → S g p → Whole g p F

module _ (Old : States) (Step : List Held → ℕ → States) (Whole : List Held → ℕ → States → Type 0) where
  pub gone_none : (S F : States) → ((g : List Held) (p : ℕ) → S g p → ⊥) → AreSame F Old → Gone Old Step Whole S F
  gone_none S F none same = record {
    kept = λ h q. (same h q).1;
    sound = λ h q found. inl ((same h q).0 found);
    whole = λ g p has. absurd (none g p has);
  }

  -- the same states
  pub gone_same : (S T F : States) → AreSame T S → Gone Old Step Whole S F → Gone Old Step Whole T F
  gone_same S T F same gone = record {
    kept = gone.kept;
    sound = λ h q found. elim (gone.sound h q found) [
      | inl old ↦ inl old
      | inr (g, p, has, step) ↦ inr (g, p, (same g p).1 has, step)
    ];
    whole = λ g p has. gone.whole g p ((same g p).0 has);
  }

  -- some states of one list more
  pub gone_more : (S T F G : States) (held : List Held) (places : List ℕ) → Stays Whole → Grows S held places T
      → ((h : List Held) (q : ℕ) → F h q → G h q)
      → ((h : List Held) (q : ℕ) → G h q → F h q ⊎ ((p : ℕ) × Contains places p × Step held p h q))
      → ((p : ℕ) → Contains places p → Whole held p G) → Gone Old Step Whole S F → Gone Old Step Whole T G
  gone_more S T F G held places stays grows more new all gone = record {
    kept = λ h q old. more h q (gone.kept h q old);
    sound = λ h q found. elim (new h q found) [
      | inl was ↦ elim (gone.sound h q was) [
        | inl old ↦ inl old
        | inr (g, p, has, step) ↦ inr (g, p, (grows g p).1 (inl has), step)
      ]
      | inr (p, has, step) ↦ inr (held, p, (grows held p).1 (inr (refl, has)), step)
    ];
    whole = λ g p has. elim ((grows g p).0 has) [
      | inl old ↦ stays g p F G more (gone.whole g p old)
      | inr (same, at) ↦ subst (λ x. Whole x p G) (sym same) (all p at)
    ];
  }

  -- from which nothing is asked for that isn't there
  pub gone_skip : (S T F : States) (g : List Held) (places : List ℕ) → Stays Whole → Grows S g places T
      → ((p : ℕ) → Contains places p → Whole g p F) → Gone Old Step Whole S F → Gone Old Step Whole T F
  gone_skip S T F g places stays grows all gone =
      gone_more S T F F g places stays grows (λ h q f. f) (λ h q f. inl f) all gone

  -- or for which a list is put at some places
  pub gone_put : (S T : States) (old new : Rows) (g h : List Held) (places ends : List ℕ) → Stays Whole
      → Grows S g places T → IsPut old h ends new
      → ((q : ℕ) → Contains ends q → (p : ℕ) × Contains places p × Step g p h q)
      → ((p : ℕ) → Contains places p → Whole g p (HasState new)) → Gone Old Step Whole S (HasState old)
      → Gone Old Step Whole T (HasState new)
  gone_put S T old new g h places ends stays grows put from all gone =
      gone_more S T (HasState old) (HasState new) g places stays grows (λ x q f. (put x q).1 (inl f))
      (λ x q f. elim ((put x q).0 f) [
        | inl was ↦ inl was
        | inr (same, at) ↦ let r = from q at in inr (r.0, r.1, subst (λ y. Step g r.0 y q) (sym same) r.2)
      ]) all gone

  pub gone_put_one : (S T : States) (old new : Rows) (g h : List Held) (p q : ℕ) → Stays Whole
      → Grows S g (p ∷ []) T → IsPut old h (q ∷ []) new → Step g p h q → Whole g p (HasState new)
      → Gone Old Step Whole S (HasState old) → Gone Old Step Whole T (HasState new)
  gone_put_one S T old new g h p q stays grows put step all gone =
      gone_put S T old new g h (p ∷ []) (q ∷ []) stays grows put
      (λ b at. (p, one_has p, subst (Step g p h) (one_is q b at) step))
      (λ b at. subst (λ b. Whole g b (HasState new)) (one_is p b at) all) gone

  pub gone_skip_one : (S T F : States) (g : List Held) (p : ℕ) → Stays Whole → Grows S g (p ∷ []) T → Whole g p F
      → Gone Old Step Whole S F → Gone Old Step Whole T F
  gone_skip_one S T F g p stays grows all gone =
      gone_skip S T F g (p ∷ []) stays grows (λ b at. subst (λ b. Whole g b F) (one_is p b at) all) gone

-- The states of a list of rows: what one row more makes of them, and one that gets places.
-- A state is that of a row at an index, so a row that changes changes its own states alone.
-- The hard one is `changed`: a row with the same list, and more places.
use Rattle.std.proofs.Common.{◌≡◌, ◌↔◌, ◌⊎◌, ℕ, ◌+◌, ◌<◌, ◌≤◌, Some, List, [], ◌∷◌, ◌++◌, length, get_or, take, drop, set, refl, sym, ap, ◌∙◌, subst, inl, inr, arith, length-set}
use Rattle.std.specs.List.{Contains, slice_get}
use Rattle.std.proofs.lemmas.Bool.{cases_eq}
use Rattle.std.proofs.lemmas.Grind.{get_or-set_at}
use Rattle.std.proofs.lemmas.List.{take_all, take_more, take-take, take-append-drop, get_or-set_same, get_or-set_other}
use Rattle.std.proofs.lemmas.List.Elements.{Contains-append_left, Contains-append_cases, Contains-push, Contains-push_cases}
use Rattle.std.proofs.lemmas.Option.{get_or_from_slice_get, slice_get_read, slice_get_within}
use Rattle.ere_places.proofs.ListLemmas.{taken}
use Rattle.ere_reach.specs.declared.held.Held.{Held}
use Rattle.ere_reach.specs.declared.row.Row.{Row}
use Rattle.ere_reach.specs.Rows.{States, HasAt, HasNone, AreSame}

pub pushed : (old : List ℕ) (place q : ℕ) → Contains (old ++ place ∷ []) q ↔ (Contains old q ⊎ (q ≡ place))
pushed old place q = (
  λ h. elim (Contains-push_cases old place q h) [ inl was ↦ inl was | inr is ↦ inr (sym is) ],
  λ h. elim h [
    | inl was ↦ Contains-append_left old (place ∷ []) q was
    | inr is ↦ subst (Contains (old ++ place ∷ [])) (sym is) (Contains-push old place)
  ],
)

-- what is more of a kind of states is more of one that has it
pub or_more : (S A B E now new : States) → AreSame B (λ h p. A h p ⊎ E h p) → AreSame now (λ h p. S h p ⊎ A h p)
    → AreSame new (λ h p. now h p ⊎ E h p) → AreSame new (λ h p. S h p ⊎ B h p)
or_more S A B E now new more before step h p = (
  λ n. elim ((step h p).0 n) [
    | inl was ↦ elim ((before h p).0 was) [ inl s ↦ inl s | inr a ↦ inr ((more h p).1 (inl a)) ]
    | inr e ↦ inr ((more h p).1 (inr e))
  ],
  λ n. elim n [
    | inl s ↦ (step h p).1 (inl ((before h p).1 (inl s)))
    | inr b ↦ elim ((more h p).0 b) [
      | inl a ↦ (step h p).1 (inl ((before h p).1 (inr a)))
      | inr e ↦ (step h p).1 (inr e)
    ]
  ],
)

pub none_at : (f : Row → List ℕ) (h : List Held) (p : ℕ) → HasAt f [] h p → ⊥
none_at f h p (row, (k, low, is), same, has) = absurd (omega (arith, low))

pub at_push : (f : Row → List ℕ) (rows : List Row) (row : Row)
    → AreSame (HasAt f (rows ++ row ∷ [])) (λ h p. HasAt f rows h p ⊎ ((h ≡ row.held.items) × Contains (f row) p))
at_push f rows row h p = (to, back)
  where
    to : HasAt f (rows ++ row ∷ []) h p → HasAt f rows h p ⊎ ((h ≡ row.held.items) × Contains (f row) p)
    to (one, has, held, at) = elim (Contains-push_cases rows row one has) [
      | inl before ↦ inl (one, before, held, at)
      | inr is ↦
          inr (sym held ∙ ap (λ (r : Row). r.held.items) (sym is), subst (λ (r : Row). Contains (f r) p) (sym is) at)
    ]

    back : HasAt f rows h p ⊎ ((h ≡ row.held.items) × Contains (f row) p) → HasAt f (rows ++ row ∷ []) h p
    back (inl (one, has, held, at)) = (one, Contains-append_left rows (row ∷ []) one has, held, at)
    back (inr (held, at)) = (row, Contains-push rows row, sym held, at)

pub at_more : (f : Row → List ℕ) (rows : List Row) (i : ℕ) (row : Row) → i < length rows → row ≡ get_or rows i row
    → AreSame (HasAt f (take (i + 1) rows))
    (λ h p. HasAt f (take i rows) h p ⊎ ((h ≡ row.held.items) × Contains (f row) p))
at_more f rows i row low is =
    let e : take (i + 1) rows ≡ take i rows ++ row ∷ [] =
    take_more rows i row low ∙ ap (λ (r : Row). take i rows ++ r ∷ []) (sym is) in
    subst (λ (xs : List Row). AreSame (HasAt f xs)
    (λ h p. HasAt f (take i rows) h p ⊎ ((h ≡ row.held.items) × Contains (f row) p)))
    (sym e) (at_push f (take i rows) row)

-- one place more of those that are put
pub put_more : (held : List Held) (places : List ℕ) (k : ℕ) → k < length places
    → AreSame (λ h p. (h ≡ held) × Contains (take (k + 1) places) p)
    (λ h p. ((h ≡ held) × Contains (take k places) p) ⊎ ((h ≡ held) × (p ≡ get_or places k 0)))
put_more held places k low h p = (
  λ has. elim ((taken places k low p).0 has.1) [
    | inl was ↦ inl (has.0, was)
    | inr is ↦ inr (has.0, sym is)
  ],
  λ has. elim has [
    | inl was ↦ (was.0, (taken places k low p).1 (inl was.1))
    | inr is ↦ (is.0, (taken places k low p).1 (inr (sym is.1)))
  ],
)

pub none_put : (held : List Held) (S now : States) → AreSame now S
    → AreSame now (λ h p. S h p ⊎ ((h ≡ held) × Contains [] p))
none_put held S now same h p = (
  λ n. inl ((same h p).0 n),
  λ has. elim has [ inl s ↦ (same h p).1 s | inr is ↦ absurd (omega (arith, is.1.1)) ],
)

-- a row gets places
pub changed : (f : Row → List ℕ) (rows : List Row) (i : ℕ) (old new : Row) (E : ℕ → Type 0)
    → slice_get rows i ≡ Some old → new.held.items ≡ old.held.items
    → ((p : ℕ) → Contains (f new) p ↔ (Contains (f old) p ⊎ E p))
    → AreSame (HasAt f (set rows i new)) (λ h p. HasAt f rows h p ⊎ ((h ≡ old.held.items) × E p))
changed f rows i old new E at held places h p = (to, back)
  where
    low : i < length rows
    low = slice_get_within rows i old at

    to : HasAt f (set rows i new) h p → HasAt f rows h p ⊎ ((h ≡ old.held.items) × E p)
    to (row, (k, fits, is), same, has) = elim (cases_eq k i) [
      | inl here ↦
          let new_is : new ≡ row = sym (get_or-set_at rows i k new row here low) ∙ is in
          let own : h ≡ old.held.items = sym same ∙ ap (λ (r : Row). r.held.items) (sym new_is) ∙ held in
          elim ((places p).0 (subst (λ (r : Row). Contains (f r) p) (sym new_is) has)) [
            | inl was ↦ inl (old, (i, low, get_or_from_slice_get rows i old old at), sym own, was)
            | inr e ↦ inr (own, e)
          ]
      | inr other ↦
          let fits' : k < length rows = omega (arith, length-set rows i new, fits) in
          inl (row, (k, fits', sym (get_or-set_other rows i k new row other) ∙ is), same, has)
    ]

    put : new.held.items ≡ h → Contains (f new) p → HasAt f (set rows i new) h p
    put same has =
        let fits : i < length (set rows i new) = omega (arith, length-set rows i new, low) in
        (new, (i, fits, get_or-set_same rows i new new low), same, has)

    back : HasAt f rows h p ⊎ ((h ≡ old.held.items) × E p) → HasAt f (set rows i new) h p
    back (inl (row, (k, fits, is), same, has)) = elim (cases_eq k i) [
      | inl here ↦
          let old_is : old ≡ row =
          sym (get_or_from_slice_get rows i old row at) ∙ ap (λ n. get_or rows n row) (sym here) ∙ is in
          put (held ∙ ap (λ (r : Row). r.held.items) old_is ∙ same)
          ((places p).1 (inl (subst (λ (r : Row). Contains (f r) p) (sym old_is) has)))
      | inr other ↦
          let fits' : k < length (set rows i new) = omega (arith, length-set rows i new, fits) in
          (row, (k, fits', get_or-set_other rows i k new row other ∙ is), same, has)
    ]
    back (inr (same, e)) = put (held ∙ sym same) ((places p).1 (inr e))

-- and one that gets none of these keeps its states
pub unchanged : (f : Row → List ℕ) (rows : List Row) (i : ℕ) (old new : Row) → slice_get rows i ≡ Some old
    → new.held.items ≡ old.held.items → f new ≡ f old → AreSame (HasAt f (set rows i new)) (HasAt f rows)
unchanged f rows i old new at held same h p =
    let changes = changed f rows i old new (λ q. ⊥) at held (λ q. (
      λ has. inl (subst (λ (xs : List ℕ). Contains xs q) same has),
      λ has. elim has [
        | inl was ↦ subst (λ (xs : List ℕ). Contains xs q) (sym same) was
        | inr never ↦ absurd never
      ],
    )) h p in
    (λ has. elim (changes.0 has) [ inl was ↦ was | inr never ↦ absurd never.1 ], λ has. changes.1 (inl has))

-- what was gone on from stays so where places come behind it
pub done_same : (old new : List ℕ) (d e : ℕ) → e ≡ d → d ≤ length old → take (length old) new ≡ old
    → take e new ≡ take d old
done_same old new d e same fits behind =
    ap (λ n. take n new) same ∙ sym (take-take d (length old) new fits) ∙ ap (take d) behind

-- one row more without places
pub added : (f : Row → List ℕ) (rows : List Row) (row : Row) → f row ≡ []
    → AreSame (HasAt f (rows ++ row ∷ [])) (HasAt f rows)
added f rows row none h p = (
  λ has. elim ((at_push f rows row h p).0 has) [
    | inl was ↦ was
    | inr is ↦ let never = subst (λ (xs : List ℕ). Contains xs p) none is.1 in absurd (omega (arith, never.1))
  ],
  λ has. (at_push f rows row h p).1 (inl has),
)

-- KINDS OF STATES

pub then_same : (P Q R : States) → AreSame P Q → AreSame Q R → AreSame P R
then_same P Q R first second h p =
    (λ x. (second h p).0 ((first h p).0 x), λ x. (first h p).1 ((second h p).1 x))

pub none_more : (S : States) (f : Row → List ℕ) → AreSame S (λ h p. S h p ⊎ HasAt f [] h p)
none_more S f h p = (λ s. inl s, λ s. elim s [ inl s ↦ s | inr never ↦ absurd (none_at f h p never) ])

-- THE LOOPS OVER ROWS

-- the places of one row more are put
pub put_row : (f : Row → List ℕ) (rows : List Row) (i : ℕ) (row : Row) (held : List Held) (places : List ℕ)
    (S now new : States) → i < length rows → row ≡ get_or rows i row → held ≡ row.held.items → places ≡ f row
    → AreSame now (λ h p. S h p ⊎ HasAt f (take i rows) h p)
    → AreSame new (λ h p. now h p ⊎ ((h ≡ held) × Contains places p))
    → AreSame new (λ h p. S h p ⊎ HasAt f (take (i + 1) rows) h p)
put_row f rows i row held places S now new low is own all before step =
    or_more S (HasAt f (take i rows)) (HasAt f (take (i + 1) rows)) (λ h p. (h ≡ row.held.items) × Contains (f row) p)
    now new (at_more f rows i row low is) before
    (subst (λ (xs : List ℕ). AreSame new (λ h p. now h p ⊎ ((h ≡ row.held.items) × Contains xs p))) all
    (subst (λ (g : List Held). AreSame new (λ h p. now h p ⊎ ((h ≡ g) × Contains places p))) own step))

-- and those of one row behind others
pub push_row : (f : Row → List ℕ) (rows : List Row) (row : Row) (S now new : States)
    → AreSame now (λ h p. S h p ⊎ HasAt f rows h p)
    → AreSame new (λ h p. now h p ⊎ ((h ≡ row.held.items) × Contains (f row) p))
    → AreSame new (λ h p. S h p ⊎ HasAt f (rows ++ row ∷ []) h p)
push_row f rows row S now new before step =
    or_more S (HasAt f rows) (HasAt f (rows ++ row ∷ [])) (λ h p. (h ≡ row.held.items) × Contains (f row) p) now new
    (at_push f rows row) before step

-- at the end of the loop
pub all_rows : (f : Row → List ℕ) (rows : List Row) (i : ℕ) (S now : States) → length rows ≤ i
    → AreSame now (λ h p. S h p ⊎ HasAt f (take i rows) h p) → AreSame now (λ h p. S h p ⊎ HasAt f rows h p)
all_rows f rows i S now long =
    subst (λ (xs : List Row). AreSame now (λ h p. S h p ⊎ HasAt f xs h p)) (take_all i rows long)

-- where there was nothing, there is that alone
pub alone : (P now : States) → AreSame now (λ h p. ⊥ ⊎ P h p) → AreSame now P
alone P now all h p = (λ n. elim ((all h p).0 n) [ inl never ↦ absurd never | inr is ↦ is ], λ is. (all h p).1 (inr is))

-- WHAT IS GONE ON FROM

abbrev pub All : Row → List ℕ
All row = row.places.items

abbrev pub Done : Row → List ℕ
Done row = take row.done row.places.items

abbrev pub Fresh : Row → List ℕ
Fresh row = drop row.done row.places.items

before_all : (d : ℕ) (places : List ℕ) (p : ℕ) → Contains (take d places) p → Contains places p
before_all d places p has =
    subst (λ (xs : List ℕ). Contains xs p) (take-append-drop d places)
    (Contains-append_left (take d places) (drop d places) p has)

pub done_all : (rows : List Row) (h : List Held) (p : ℕ) → HasAt Done rows h p → HasAt All rows h p
done_all rows h p (row, has, same, at) = (row, has, same, before_all row.done row.places.items p at)

-- a row is finished: the loop has done all of its places too
pub finish_row : (old now : List Row) (i : ℕ) (row new : Row) (S : States) → i < length old → i < length now
    → row ≡ get_or now i row → get_or now i row ≡ get_or old i row → new.held.items ≡ row.held.items
    → new.places.items ≡ row.places.items → new.done ≡ length row.places.items
    → AreSame (HasAt Done now) (λ h p. S h p ⊎ HasAt All (take i old) h p)
    → AreSame (HasAt Done (set now i new)) (λ h p. S h p ⊎ HasAt All (take (i + 1) old) h p)
finish_row old now i row new S low fits is rest held places done before =
    put_row All old i row row.held.items row.places.items S (HasAt Done now) (HasAt Done (set now i new)) low
    (is ∙ rest) refl refl before
    (changed Done now i row new (Contains row.places.items) (slice_get_read now (length now) i row refl fits is) held each)
  where
    all : take new.done new.places.items ≡ row.places.items
    all = take_all new.done new.places.items (omega (arith, done, ap length places)) ∙ places

    each : (p : ℕ) → Contains (take new.done new.places.items) p
        ↔ (Contains (take row.done row.places.items) p ⊎ Contains row.places.items p)
    each p = (
      λ has. inr (subst (λ (xs : List ℕ). Contains xs p) all has),
      λ has. subst (λ (xs : List ℕ). Contains xs p) (sym all)
          (elim has [ inl was ↦ before_all row.done row.places.items p was | inr is ↦ is ]),
    )

pub all_done : (rows : List Row) (now : States) → AreSame now (λ h p. HasAt Done rows h p ⊎ HasAt All rows h p)
    → AreSame now (HasAt All rows)
all_done rows now all h p = (
  λ n. elim ((all h p).0 n) [ inl was ↦ done_all rows h p was | inr is ↦ is ],
  λ is. (all h p).1 (inr is),
)

-- where none is fresh, all are done
pub none_fresh : (rows : List Row) → HasNone (HasAt Fresh rows) → AreSame (HasAt All rows) (HasAt Done rows)
none_fresh rows none h p = (to, done_all rows h p)
  where
    to : HasAt All rows h p → HasAt Done rows h p
    to (row, has, same, at) =
        elim (Contains-append_cases (take row.done row.places.items) (drop row.done row.places.items) p
        (subst (λ (xs : List ℕ). Contains xs p) (sym (take-append-drop row.done row.places.items)) at)) [
          | inl done ↦ (row, has, same, done)
          | inr fresh ↦ absurd (none h p (row, has, same, fresh))
        ]

-- rows of which there are none have no state
pub no_rows : (f : Row → List ℕ) (rows : List Row) → rows ≡ [] → HasNone (HasAt f rows)
no_rows f rows none h p has = none_at f h p (subst (λ (xs : List Row). HasAt f xs h p) none has)

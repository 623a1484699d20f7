-- What lists contain, what stands where in them, and what they sum up to.
-- Shown: by what a list contains, what one with an item more or a mapped one does. Idea: by cases on the first place or the last.
-- None is hard.
use Rattle.std.proofs.Common.{◌≡◌, ℕ, zero, suc, ◌+◌, ◌<◌, ◌≤◌, ◌||◌, Bool, true, false, cond, ◌⊎◌, inl, inr, List, [], ◌∷◌, ◌++◌, length, map, take, drop, get_or, Some, refl, sym, ap, ◌∙◌, subst, arith}
use Rattle.std.specs.List.{AllByRecursion, Any, Contains, find, position_or_len, sum_by}
use Rattle.std.specs.List.Sorted.{IsStrictlySortedBy}
use Rattle.std.specs.declared.cmp.Ordering.{Ordering}
use Rattle.std.specs.declared.cmp.Ordering.TheVariants.{Less}
use Rattle.std.specs.Prelude.{slice_get}
use Rattle.std.proofs.lemmas.Option.{get_or_from_slice_get, slice_get_within}
use Rattle.std.proofs.lemmas.List.{drop_more, get_or-map, length-map, map-append, map_push, take-append-drop}
use Rattle.std.proofs.lemmas.List.Elements.{Contains-append_left, Contains-append_right, Contains-push, Contains-push_cases}
use Rattle.std.proofs.lemmas.List.Folds.{find_at}
use Rattle.std.proofs.lemmas.List.Sums.{passes_at_first, sum_by-cons, sum_by-le-sum_by}

pub first_in : {A : Type 0} (x : A) (xs : List A) → Contains (x ∷ xs) x
first_in x xs = Contains-append_left (x ∷ []) xs x (Contains-push [] x)

pub later_in : {A : Type 0} (x y : A) (xs : List A) → Contains xs y → Contains (x ∷ xs) y
later_in x y xs h = Contains-append_right (x ∷ []) xs y h

pub cons_cases : {A : Type 0} (x y : A) (xs : List A) → Contains (x ∷ xs) y → (y ≡ x) ⊎ Contains xs y
cons_cases x y xs (zero, within, is) = inl (sym is)
cons_cases x y xs (suc k, within, is) = inr (k, omega arith, is)

pub none_in : {A : Type 0} (x : A) → Contains [] x → ⊥
none_in x (k, within, is) = absurd (omega arith)

pub its_one : {A : Type 0} (P : A → Type 0) (xs : List A) → Any P xs → (x : A) × Contains xs x × P x
its_one P xs (k, x, within, is, p) = (x, (k, within, is), p)

pub any_one : {A : Type 0} (P : A → Type 0) (xs : List A) (x : A) → Contains xs x → P x → Any P xs
any_one P xs x (k, within, is) p = (k, x, within, is, p)

pub mapped : {A B : Type 0} (f : A → B) (xs : List A) (y : B) → Contains (map f xs) y
    → (x : A) × Contains xs x × (f x ≡ y)
mapped f [] y h = absurd (none_in y h)
mapped f (x ∷ xs) y h = elim (cons_cases (f x) y (map f xs) h) [
  | inl same ↦ (x, first_in x xs, sym same)
  | inr later ↦
      let (one, within, is) = mapped f xs y later in
      (one, later_in x one xs within, is)
]

pub contains_map : {A B : Type 0} (f : A → B) (xs : List A) (y : A) → Contains xs y → Contains (map f xs) (f y)
contains_map f xs y (k, within, is) = (k, omega (arith, length-map xs f), get_or-map f xs k y (f y) within ∙ ap f is)

-- what a mapped list contains behind one more
pub push_has : {A B : Type 0} (f : A → B) (xs : List A) (x : A) (y : B) → Contains (map f xs) y ⊎ (y ≡ f x)
    → Contains (map f (xs ++ x ∷ [])) y
push_has f xs x y h = subst (λ ys. Contains ys y) (sym (map_push f xs x)) (elim h [
  | inl had ↦ Contains-append_left (map f xs) (f x ∷ []) y had
  | inr is ↦ subst (Contains (map f xs ++ f x ∷ [])) (sym is) (Contains-push (map f xs) (f x))
])

pub push_cases : {A B : Type 0} (f : A → B) (xs : List A) (x : A) (y : B) → Contains (map f (xs ++ x ∷ [])) y
    → Contains (map f xs) y ⊎ (y ≡ f x)
push_cases f xs x y h =
    elim (Contains-push_cases (map f xs) (f x) y (subst (λ ys. Contains ys y) (map_push f xs x) h)) [
      | inl had ↦ inl had
      | inr is ↦ inr (sym is)
    ]

pub any_longer : {A : Type 0} (P : A → Type 0) (xs : List A) (x : A) → Any P xs → Any P (xs ++ x ∷ [])
any_longer P xs x any =
    let (one, within, p) = its_one P xs any in
    any_one P (xs ++ x ∷ []) one (Contains-append_left xs (x ∷ []) one within) p

pub any_cases : {A : Type 0} (P : A → Type 0) (xs : List A) (x : A) → Any P (xs ++ x ∷ []) → Any P xs ⊎ P x
any_cases P xs x any =
    let (one, within, p) = its_one P (xs ++ x ∷ []) any in
    elim (Contains-push_cases xs x one within) [
      | inl early ↦ inl (any_one P xs one early p)
      | inr last ↦ inr (subst P (sym last) p)
    ]

-- ---- places

abbrev pub has_at : {A : Type 0} (xs : List A) (n : ℕ) (x : A) → slice_get xs n ≡ Some x → Contains xs x
has_at xs n x is = (n, slice_get_within xs n x is, get_or_from_slice_get xs n x x is)

-- what is found is in the list, and passes
pub found_in : {A : Type 0} (p : A → Bool) (xs : List A) (x : A) → find p xs ≡ Some x → Contains xs x × (p x ≡ true)
found_in p xs x is =
    let here : slice_get xs (position_or_len p xs) ≡ Some x = sym (find_at p xs) ∙ is in
    let (n, within, same) = has_at xs (position_or_len p xs) x here in
    ((n, within, same), ap p (sym same) ∙ passes_at_first p xs x within)

pub get_before : {A : Type 0} (xs more : List A) (n : ℕ) (x : A) → slice_get xs n ≡ Some x
    → slice_get (xs ++ more) n ≡ Some x
get_before [] more n x h = absurd (cc)
get_before (y ∷ xs) more zero x h = h
get_before (y ∷ xs) more (suc n) x h = get_before xs more n x h

pub get_last : {A : Type 0} (xs : List A) (x : A) → slice_get (xs ++ x ∷ []) (length xs) ≡ Some x
get_last [] x = refl
get_last (y ∷ xs) x = get_last xs x

pub get_cases : {A : Type 0} (xs : List A) (x y : A) (n : ℕ) → slice_get (xs ++ x ∷ []) n ≡ Some y
    → (slice_get xs n ≡ Some y) ⊎ ((n ≡ length xs) × (y ≡ x))
get_cases [] x y zero h = inr (refl, cc)
get_cases [] x y (suc n) h = absurd (cc)
get_cases (z ∷ xs) x y zero h = inl h
get_cases (z ∷ xs) x y (suc n) h = elim (get_cases xs x y n h) [
  | inl before ↦ inl before
  | inr (last, is) ↦ inr (ap (λ k. suc k) last, is)
]

pub map_cut : {A B : Type 0} (f : A → B) (xs : List A) (i : ℕ) (x : A) → i < length xs → x ≡ get_or xs i x
    → map f xs ≡ map f (take i xs) ++ f x ∷ map f (drop (i + 1) xs)
map_cut f xs i x within is =
    let cut = drop_more xs i x within ∙ ap (λ one. one ∷ drop (i + 1) xs) (sym is) in
    ap (map f) (sym (take-append-drop i xs) ∙ ap (λ ys. take i xs ++ ys) cut)
    ∙ map-append f (take i xs) (x ∷ drop (i + 1) xs)

-- ---- sums

pub at_most : (b : Bool) (n : ℕ) → cond b n 0 ≤ n
at_most true n = omega arith
at_most false n = omega arith

pub or_more : (a b : Bool) (n : ℕ) → cond b n 0 ≤ cond (a || b) n 0
or_more true b n = at_most b n
or_more false b n = omega arith

-- a sum that is greater by some in one place
pub sums_more : {A : Type 0} (f g : A → ℕ) (n : ℕ) (xs : List A) (x : A) → ((y : A) → f y ≤ g y) → Contains xs x
    → f x + n ≤ g x → sum_by f xs + n ≤ sum_by g xs
sums_more f g n [] x each within more = absurd (none_in x within)
sums_more f g n (y ∷ ys) x each within more = elim (cons_cases y x ys within) [
  | inl same ↦
      let here : f y + n ≤ g y = subst (λ z. f z + n ≤ g z) same more in
      omega (arith, sum_by-cons f y ys, sum_by-cons g y ys, sum_by-le-sum_by f g ys each)
  | inr later ↦ omega (arith, sum_by-cons f y ys, sum_by-cons g y ys, each y, sums_more f g n ys x each later more)
]

-- ---- order

below_mapped : {A B : Type 0} (f : A → B) (cmp : B → B → Ordering) (x : A) (xs : List A)
    → AllByRecursion (λ y. cmp (f x) (f y) ≡ Less) xs → AllByRecursion (λ y. cmp (f x) y ≡ Less) (map f xs)
below_mapped f cmp x [] below = tt
below_mapped f cmp x (y ∷ ys) (first, rest) = (first, below_mapped f cmp x ys rest)

pub sorted_mapped : {A B : Type 0} (f : A → B) (cmp : B → B → Ordering) (xs : List A)
    → IsStrictlySortedBy (λ x y. cmp (f x) (f y)) xs → IsStrictlySortedBy cmp (map f xs)
unfolding IsStrictlySortedBy
sorted_mapped f cmp [] sorted = tt
sorted_mapped f cmp (x ∷ xs) (below, rest) = (below_mapped f cmp x xs below, sorted_mapped f cmp xs rest)

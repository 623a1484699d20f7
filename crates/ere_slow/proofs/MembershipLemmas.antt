-- Membership by cases on the list, and how it passes through std's words on lists.
-- `IsIn` computes where std's `Contains` gives an index, so that inductions over lists need no arithmetic; the last
-- lemmas lead from one to the other.
use Rattle.std.proofs.Common.{◌≡◌, Bool, true, false, cond, suc, List, [], ◌∷◌, ◌++◌, map, refl, sym, ap, ◌∙◌, subst, inl, inr, arith, true≢false}
use Rattle.std.specs.Prelude.{◌⊎◌}
use Rattle.std.specs.List.{filter, flat_map, All, Any, Contains}
use Rattle.std.proofs.lemmas.List.Elements.{All-nil, All-cons, All-head, All-tail, All-contains}

-- x is one of the list
abbrev pub IsIn : {X : Type 0} → X → List X → Type 0
IsIn x [] = ⊥
IsIn x (y ∷ ys) = (x ≡ y) ⊎ IsIn x ys

pub IsIn-append_left : {X : Type 0} (x : X) (xs ys : List X) → IsIn x xs → IsIn x (xs ++ ys)
IsIn-append_left x (z ∷ xs) ys (inl e) = inl e
IsIn-append_left x (z ∷ xs) ys (inr h) = inr (IsIn-append_left x xs ys h)
IsIn-append_left x [] ys h = absurd h

pub IsIn-append_right : {X : Type 0} (x : X) (xs ys : List X) → IsIn x ys → IsIn x (xs ++ ys)
IsIn-append_right x [] ys h = h
IsIn-append_right x (z ∷ xs) ys h = inr (IsIn-append_right x xs ys h)

append_cases_more : {X : Type 0} (x z : X) (xs ys : List X) → IsIn x xs ⊎ IsIn x ys → IsIn x (z ∷ xs) ⊎ IsIn x ys
append_cases_more x z xs ys (inl h) = inl (inr h)
append_cases_more x z xs ys (inr h) = inr h

pub IsIn-append_cases : {X : Type 0} (x : X) (xs ys : List X) → IsIn x (xs ++ ys) → IsIn x xs ⊎ IsIn x ys
IsIn-append_cases x [] ys h = inr h
IsIn-append_cases x (z ∷ xs) ys (inl e) = inl (inl e)
IsIn-append_cases x (z ∷ xs) ys (inr h) = append_cases_more x z xs ys (IsIn-append_cases x xs ys h)

pub IsIn-map : {X Y : Type 0} (f : X → Y) (x : X) (xs : List X) → IsIn x xs → IsIn (f x) (map f xs)
IsIn-map f x (z ∷ xs) (inl e) = inl (ap f e)
IsIn-map f x (z ∷ xs) (inr h) = inr (IsIn-map f x xs h)
IsIn-map f x [] h = absurd h

pub map-IsIn : {X Y : Type 0} (f : X → Y) (y : Y) (xs : List X) → IsIn y (map f xs)
    → (x : X) × IsIn x xs × (y ≡ f x)
map-IsIn f y (z ∷ xs) (inl e) = (z, inl refl, e)
map-IsIn f y (z ∷ xs) (inr h) = let r = map-IsIn f y xs h in (r.0, inr r.1, r.2)
map-IsIn f y [] h = absurd h

pub IsIn-flat_map : {X Y : Type 0} (f : X → List Y) (y : Y) (x : X) (xs : List X) → IsIn x xs → IsIn y (f x)
    → IsIn y (flat_map f xs)
IsIn-flat_map f y x (z ∷ xs) (inl e) g = IsIn-append_left y (f z) (flat_map f xs) (subst (λ u. IsIn y (f u)) e g)
IsIn-flat_map f y x (z ∷ xs) (inr h) g = IsIn-append_right y (f z) (flat_map f xs) (IsIn-flat_map f y x xs h g)
IsIn-flat_map f y x [] h g = absurd h

flat_map_more : {X Y : Type 0} (f : X → List Y) (y : Y) (z : X) (xs : List X)
    → ((x : X) × IsIn x xs × IsIn y (f x)) → (x : X) × IsIn x (z ∷ xs) × IsIn y (f x)
flat_map_more f y z xs r = (r.0, inr r.1, r.2)

pub flat_map-IsIn : {X Y : Type 0} (f : X → List Y) (y : Y) (xs : List X) → IsIn y (flat_map f xs)
    → (x : X) × IsIn x xs × IsIn y (f x)
flat_map-IsIn f y [] h = absurd h
flat_map-IsIn {X} f y (z ∷ xs) h =
    elim (IsIn-append_cases y (f z) (flat_map f xs) h) [
      | inl g ↦ (z, inl refl, g)
      | inr g ↦ flat_map_more f y z xs (flat_map-IsIn f y xs g)
    ]

filter_kept : {X : Type 0} (p : X → Bool) (x z : X) (xs : List X) (b : Bool) → p z ≡ b → p x ≡ true
    → (x ≡ z) ⊎ IsIn x (filter p xs) → IsIn x (cond b (z ∷ filter p xs) (filter p xs))
filter_kept p x z xs true e t h = h
filter_kept p x z xs false e t (inl g) = absurd (true≢false (sym t ∙ ap p g ∙ e))
filter_kept p x z xs false e t (inr g) = g

pub IsIn-filter : {X : Type 0} (p : X → Bool) (x : X) (xs : List X) → p x ≡ true → IsIn x xs → IsIn x (filter p xs)
IsIn-filter p x [] t h = absurd h
IsIn-filter p x (z ∷ xs) t (inl e) = filter_kept p x z xs (p z) refl t (inl e)
IsIn-filter p x (z ∷ xs) t (inr h) = filter_kept p x z xs (p z) refl t (inr (IsIn-filter p x xs t h))

filter_found : {X : Type 0} (p : X → Bool) (x z : X) (xs : List X) (b : Bool) → p z ≡ b
    → (IsIn x (filter p xs) → IsIn x xs × (p x ≡ true))
    → IsIn x (cond b (z ∷ filter p xs) (filter p xs)) → IsIn x (z ∷ xs) × (p x ≡ true)
filter_found p x z xs true e k (inl g) = (inl g, ap p g ∙ e)
filter_found p x z xs true e k (inr g) = let r = k g in (inr r.0, r.1)
filter_found p x z xs false e k g = let r = k g in (inr r.0, r.1)

pub filter-IsIn : {X : Type 0} (p : X → Bool) (x : X) (xs : List X) → IsIn x (filter p xs) → IsIn x xs × (p x ≡ true)
filter-IsIn p x [] h = absurd h
filter-IsIn p x (z ∷ xs) h = filter_found p x z xs (p z) refl (filter-IsIn p x xs) h

-- std's words
pub All-each : {X : Type 0} (P : X → Type 0) (xs : List X) → ((x : X) → IsIn x xs → P x) → All P xs
All-each P [] f = All-nil P
All-each P (y ∷ ys) f = All-cons P y ys (f y (inl refl)) (All-each P ys (λ x h. f x (inr h)))

pub All-IsIn : {X : Type 0} (P : X → Type 0) (xs : List X) (x : X) → All P xs → IsIn x xs → P x
All-IsIn P [] x a h = absurd h
All-IsIn P (y ∷ ys) x a (inl e) = subst P (sym e) (All-head P y ys a)
All-IsIn P (y ∷ ys) x a (inr h) = All-IsIn P ys x (All-tail P y ys a) h

pub IsIn-Contains : {X : Type 0} (xs : List X) (x : X) → IsIn x xs → Contains xs x
IsIn-Contains [] x h = absurd h
IsIn-Contains (y ∷ ys) x (inl e) = (0, omega arith, sym e)
IsIn-Contains (y ∷ ys) x (inr h) = let r = IsIn-Contains ys x h in (suc r.0, omega (arith, r.1), r.2)

pub Contains-IsIn : {X : Type 0} (xs : List X) (x : X) → Contains xs x → IsIn x xs
Contains-IsIn xs x h = All-contains (λ y. IsIn y xs) xs x (All-each (λ y. IsIn y xs) xs (λ y g. g)) h

pub IsIn-Any : {X : Type 0} (P : X → Type 0) (xs : List X) (x : X) → IsIn x xs → P x → Any P xs
IsIn-Any P xs x h p = let r = IsIn-Contains xs x h in (r.0, x, r.1, r.2, p)

-- Bodies, one by one.
use Rattle.std.proofs.Common.{◌≡◌, ℕ, zero, suc, ◌+◌, ◌<◌, List, [], ◌∷◌, ◌++◌, length, take, drop, map, refl, sym, ap, ◌∙◌, subst, arith, add-one, get_or, drop-cons}
use Rattle.std.proofs.lemmas.List.{drop-map}
use Rattle.check_program.specs.Compiled.{Body, implicit_bodies, implicit_body}

next-suc : {X : Type 0} → (n : ℕ) (xs ys : List X) (x : X) → drop n xs ≡ x ∷ ys
    → (take (suc n) xs ≡ take n xs ++ x ∷ []) × (length (take n xs) ≡ n)
next-suc zero [] ys x is = absurd (omega (arith, ap length is))
next-suc zero (y ∷ xs) ys x is = (cc, refl)
next-suc (suc n) [] ys x is = absurd (omega (arith, ap length is))
next-suc (suc n) (y ∷ xs) ys x is =
    let rest = next-suc n xs ys x is in
    (ap (λ l. y ∷ l) rest.0, omega (arith, rest.1))

-- the element in front of a rest is the next one
pub next : {X : Type 0} → (n : ℕ) (xs ys : List X) (x : X) → drop n xs ≡ x ∷ ys
    → (take (n + 1) xs ≡ take n xs ++ x ∷ []) × (length (take n xs) ≡ n)
next n xs ys x is =
    subst (λ m. (take m xs ≡ take n xs ++ x ∷ []) × (length (take n xs) ≡ n)) (sym (add-one n)) (next-suc n xs ys x is)

-- what stands in front of a rest, as the code reads it
pub here : {X : Type 0} → (n : ℕ) (xs : List X) (x : X) → n < length xs → x ≡ get_or xs n x
    → drop n xs ≡ x ∷ drop (suc n) xs
here n xs x within is = drop-cons xs n x within ∙ ap (λ y. y ∷ drop (suc n) xs) (sym is)

pub mapped_here : {X : Type 0} → (f : X → Body) (n : ℕ) (xs : List X) (x : X) (body : Body) → n < length xs
    → x ≡ get_or xs n x → body ≡ f x → drop n (map f xs) ≡ body ∷ map f (drop (suc n) xs)
mapped_here f n xs x body within is same =
    drop-map f n xs ∙ ap (map f) (here n xs x within is) ∙ ap (λ b. b ∷ map f (drop (suc n) xs)) (sym same)

-- implicit bodies
implicit-drop : (n line : ℕ) (implicit : List (List ℕ))
    → drop n (implicit_bodies line implicit) ≡ implicit_bodies (line + n) (drop n implicit)
implicit-drop zero line implicit = let same : line ≡ line + 0 = omega arith in ap (λ l. implicit_bodies l implicit) same
implicit-drop (suc n) line [] = refl
implicit-drop (suc n) line (bytes ∷ implicit) =
    let same : (line + 1) + n ≡ line + suc n = omega arith in
    implicit-drop n (line + 1) implicit ∙ ap (λ l. implicit_bodies l (drop n implicit)) same

pub implicit_here : (n line : ℕ) (implicit : List (List ℕ)) (bytes : List ℕ) (body : Body) → n < length implicit
    → bytes ≡ get_or implicit n bytes → body ≡ implicit_body (line + n) bytes → drop n (implicit_bodies line implicit)
    ≡ body ∷ implicit_bodies (line + n + 1) (drop (suc n) implicit)
implicit_here n line implicit bytes body within is same =
    implicit-drop n line implicit ∙ ap (implicit_bodies (line + n)) (here n implicit bytes within is)
    ∙ ap (λ one. one ∷ implicit_bodies (line + n + 1) (drop (suc n) implicit)) (sym same)

pub implicit_length : (line : ℕ) (implicit : List (List ℕ)) → length (implicit_bodies line implicit) ≡ length implicit
implicit_length line [] = refl
implicit_length line (bytes ∷ implicit) = omega (arith, implicit_length (line + 1) implicit)

-- What the tests on parts of paths say, of one part and of all parts of a path.
-- They are conjunctions that compute: each lemma takes one side of one, or puts two together.
-- `no_slash` is the one that is used most; none is hard.
use Rattle.std.proofs.Common.{◌≡◌, ◌==◌, ℕ, Bool, true, false, not, ◌&&◌, ◌||◌, List, [], ◌∷◌, Option, None, map, refl, sym, ◌∙◌, ap, true≢false}
use Rattle.std.proofs.lemmas.List.Elements.{All-nil, All-cons}
use Rattle.std.proofs.lemmas.Iterator.{YieldsList}
use Rattle.std.proofs.lemmas.Iterator.Consumers.{YieldsList-end}
use Rattle.std.specs.Iterator.{Yields}
use Rattle.std.specs.Str.{bytes_eq}
use Rattle.std.specs.List.{All, list_all, list_any}
use Rattle.std.proofs.lemmas.Bool.{false≢true}
use Rattle.tt_outside.specs.TreeMap.{is_part}

pub and_left : (a b : Bool) → (a && b) ≡ true → a ≡ true
and_left true b h = refl
and_left false b h = h

pub and_right : (a b : Bool) → (a && b) ≡ true → b ≡ true
and_right true b h = h
and_right false b h = absurd (false≢true h)

pub and_both : (a b : Bool) → a ≡ true → b ≡ true → (a && b) ≡ true
and_both a b h k = ap (λ x. x && b) h ∙ k

pub false_of : (a : Bool) → not a ≡ true → a ≡ false
false_of true h = sym h
false_of false h = refl

or_left : (a b : Bool) → (a || b) ≡ false → a ≡ false
or_left true b h = h
or_left false b h = refl

or_right : (a b : Bool) → (a || b) ≡ false → b ≡ false
or_right true b h = absurd (true≢false h)
or_right false b h = h

-- no element passes a test that none passes
pub none_pass : (p : ℕ → Bool) (xs : List ℕ) → list_any p xs ≡ false → All (λ x. p x ≡ false) xs
none_pass p [] h = All-nil (λ y. p y ≡ false)
none_pass p (x ∷ xs) h =
    All-cons (λ y. p y ≡ false) x xs (or_left (p x) (list_any p xs) h)
    (none_pass p xs (or_right (p x) (list_any p xs) h))

-- a part has no slash
pub no_slash : (part : List ℕ) → is_part part ≡ true → All (λ b. (b == 47) ≡ false) part
no_slash part h =
    none_pass (λ b. b == 47) part (false_of (list_any (λ b. b == 47) part) (and_right (not (bytes_eq part [])) _ h))

pub first_is_part : (part : List ℕ) (path : List (List ℕ)) → list_all is_part (part ∷ path) ≡ true → is_part part ≡ true
first_is_part part path h = and_left (is_part part) (list_all is_part path) h

pub rest_are_parts : (part : List ℕ) (path : List (List ℕ)) → list_all is_part (part ∷ path) ≡ true
    → list_all is_part path ≡ true
rest_are_parts part path h = and_right (is_part part) (list_all is_part path) h

pub no_part_is_empty : is_part [] ≡ true → ⊥
no_part_is_empty h = false≢true h

-- what is yielded to the end is all
pub all_yielded : {S A B : Type 0} {steps : S → Option A → S → Type 0} {s : S} (v : A → B) (all : List B) (xs : List A)
    (t : S) → Yields steps s xs t → (r : Option A) (u : S) → r ≡ None → steps t r u → YieldsList steps v s all
    → map v xs ≡ all
all_yielded v all xs t y r u is last chain = (YieldsList-end chain xs t y r u is last).0

-- Lists of places, each once, beside the set of what they have: one place more, which is new or not.
-- The set says what the list has, so a place is pushed where the set has it not, and both stay as they are elsewhere.
-- The hard one is `both_push`, a new place in the list and in the set.
use Rattle.std.proofs.Common.{◌≡◌, ◌↔◌, ℕ, ◌+◌, ◌<◌, ◌≤◌, Bool, true, false, not, ◌||◌, ◌==◌, IsTrue, List, [], ◌∷◌, ◌++◌, length, take, get_or, refl, sym, ap, ◌∙◌, subst, inl, inr, arith, eqb-true, eq-eqb, length-take}
use Rattle.std.specs.Prelude.{◌⊎◌}
use Rattle.std.specs.List.{Contains}
use Rattle.std.proofs.lemmas.List.{take_more, take-append-le}
use Rattle.std.proofs.lemmas.List.Elements.{Contains-append_left, Contains-push, Contains-push_cases}
use Rattle.ere_places.specs.Places.{AreBoth}

pub not_false : (v : Bool) → not v ≡ false → v ≡ true
not_false true is = refl
not_false false is = sym is

or_cases : (v w : Bool) → (v || w) ≡ true → (v ≡ true) ⊎ (w ≡ true)
or_cases true w is = inl refl
or_cases false w is = inr is

or_left : (v w : Bool) → v ≡ true → (v || w) ≡ true
or_left v w is = ap (λ x. x || w) is

or_right : (v w : Bool) → w ≡ true → (v || w) ≡ true
or_right true w is = refl
or_right false w is = is

-- the set has what the list has
abbrev pub AreSame : (ℕ → Bool) → List ℕ → Type 0
AreSame held list = (q : ℕ) → IsTrue (held q) ↔ Contains list q

-- the set with one place more
abbrev pub HasMore : (ℕ → Bool) → (ℕ → Bool) → ℕ → Type 0
HasMore old new place = (q : ℕ) → new q ≡ (old q || q == place)

pub same_push : (old new : ℕ → Bool) (list : List ℕ) (place : ℕ) → HasMore old new place → AreSame old list
    → AreSame new (list ++ place ∷ [])
same_push old new list place more same q = (to, back)
  where
    to : IsTrue (new q) → Contains (list ++ place ∷ []) q
    to h = elim (or_cases (old q) (q == place) (sym (more q) ∙ h)) [
      | inl before ↦ Contains-append_left list (place ∷ []) q ((same q).0 before)
      | inr is ↦ subst (Contains (list ++ place ∷ [])) (sym (eqb-true q place is)) (Contains-push list place)
    ]

    back : Contains (list ++ place ∷ []) q → IsTrue (new q)
    back h = elim (Contains-push_cases list place q h) [
      | inl before ↦ more q ∙ or_left (old q) (q == place) ((same q).1 before)
      | inr is ↦ more q ∙ or_right (old q) (q == place) (eq-eqb q place (sym is))
    ]

pub same_stay : (old new : ℕ → Bool) (list : List ℕ) (place : ℕ) → HasMore old new place → old place ≡ true
    → AreSame old list → AreSame new list
same_stay old new list place more held same q = (to, back)
  where
    to : IsTrue (new q) → Contains list q
    to h = elim (or_cases (old q) (q == place) (sym (more q) ∙ h)) [
      | inl before ↦ (same q).0 before
      | inr is ↦ subst (Contains list) (sym (eqb-true q place is)) ((same place).0 held)
    ]

    back : Contains list q → IsTrue (new q)
    back h = more q ∙ or_left (old q) (q == place) ((same q).1 h)

pub both_none : (old : List ℕ) → AreBoth old [] old
both_none old q = (λ h. inl h, λ h. elim h [ inl is ↦ is | inr is ↦ absurd (omega (arith, is.1)) ])

pub taken : (found : List ℕ) (i : ℕ) → i < length found → (q : ℕ)
    → Contains (take (i + 1) found) q ↔ (Contains (take i found) q ⊎ (get_or found i 0 ≡ q))
taken found i low q = (to, back)
  where
    more : take (i + 1) found ≡ take i found ++ get_or found i 0 ∷ []
    more = take_more found i 0 low

    to : Contains (take (i + 1) found) q → Contains (take i found) q ⊎ (get_or found i 0 ≡ q)
    to h = Contains-push_cases (take i found) (get_or found i 0) q (subst (λ (xs : List ℕ). Contains xs q) more h)

    back : Contains (take i found) q ⊎ (get_or found i 0 ≡ q) → Contains (take (i + 1) found) q
    back (inl h) = subst (λ (xs : List ℕ). Contains xs q) (sym more)
        (Contains-append_left (take i found) (get_or found i 0 ∷ []) q h)
    back (inr is) = subst (λ (xs : List ℕ). Contains xs q) (sym more)
        (subst (Contains (take i found ++ get_or found i 0 ∷ [])) is (Contains-push (take i found) (get_or found i 0)))

pub both_push : (old found list : List ℕ) (i : ℕ) → i < length found → AreBoth old (take i found) list
    → AreBoth old (take (i + 1) found) (list ++ get_or found i 0 ∷ [])
both_push old found list i low both q = (to, back)
  where
    place : ℕ
    place = get_or found i 0

    to : Contains (list ++ place ∷ []) q → Contains old q ⊎ Contains (take (i + 1) found) q
    to h = elim (Contains-push_cases list place q h) [
      | inl before ↦ elim ((both q).0 before) [
        | inl was ↦ inl was
        | inr is ↦ inr ((taken found i low q).1 (inl is))
      ]
      | inr is ↦ inr ((taken found i low q).1 (inr is))
    ]

    back : Contains old q ⊎ Contains (take (i + 1) found) q → Contains (list ++ place ∷ []) q
    back (inl was) = Contains-append_left list (place ∷ []) q ((both q).1 (inl was))
    back (inr h) = elim ((taken found i low q).0 h) [
      | inl before ↦ Contains-append_left list (place ∷ []) q ((both q).1 (inr before))
      | inr is ↦ subst (Contains (list ++ place ∷ [])) is (Contains-push list place)
    ]

pub both_stay : (old found list : List ℕ) (i : ℕ) → i < length found → AreBoth old (take i found) list
    → Contains list (get_or found i 0) → AreBoth old (take (i + 1) found) list
both_stay old found list i low both has q = (to, back)
  where
    to : Contains list q → Contains old q ⊎ Contains (take (i + 1) found) q
    to h = elim ((both q).0 h) [
      | inl was ↦ inl was
      | inr is ↦ inr ((taken found i low q).1 (inl is))
    ]

    back : Contains old q ⊎ Contains (take (i + 1) found) q → Contains list q
    back (inl was) = (both q).1 (inl was)
    back (inr h) = elim ((taken found i low q).0 h) [
      | inl before ↦ (both q).1 (inr before)
      | inr is ↦ subst (Contains list) is has
    ]

-- what stood at the front of a list still does behind a push
pub front_push : (old list : List ℕ) (place : ℕ) → take (length old) list ≡ old
    → take (length old) (list ++ place ∷ []) ≡ old
front_push old list place front =
    let fits : length old ≤ length list = omega (arith, ap length front, length-take (length old) list) in
    take-append-le (length old) list (place ∷ []) fits ∙ front

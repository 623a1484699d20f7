-- One of a list of features.
use Rattle.std.proofs.Common.{◌≡◌, ℕ, ◌+◌, ◌<◌, ◌≤◌, suc, zero, List, [], ◌∷◌, length, drop, get_or, inl, inr, sym, ap, ◌∙◌, subst, arith, add-one, drop-cons}
use Rattle.bool_exprs.specs.Expr.{OneOf}

-- the features from a place on
from_here : (fs : List (List ℕ)) (i : ℕ) (f : List ℕ) → i < length fs → f ≡ get_or fs i f
    → drop i fs ≡ f ∷ drop (i + 1) fs
from_here fs i f inside is =
    drop-cons fs i f inside ∙ ap (λ g. g ∷ drop (suc i) fs) (sym is) ∙ ap (λ n. f ∷ drop n fs) (sym (add-one i))

pub one_here : (IsSuch : List ℕ → Type 0) (fs : List (List ℕ)) (i : ℕ) (f : List ℕ) → i < length fs → f ≡ get_or fs i f
    → IsSuch f → OneOf IsSuch (drop i fs)
one_here IsSuch fs i f inside is such = subst (OneOf IsSuch) (sym (from_here fs i f inside is)) (inl such)

-- a feature that isn't such is passed over
passed : (IsSuch : List ℕ → Type 0) (f : List ℕ) (fs : List (List ℕ)) → (IsSuch f → ⊥)
    → OneOf IsSuch (f ∷ fs) → OneOf IsSuch fs
passed IsSuch f fs not (inl such) = absurd (not such)
passed IsSuch f fs not (inr later) = later

pub one_later : (IsSuch : List ℕ → Type 0) (fs : List (List ℕ)) (i : ℕ) (f : List ℕ) → i < length fs → f ≡ get_or fs i f
    → (IsSuch f → ⊥) → OneOf IsSuch (drop i fs) → OneOf IsSuch (drop (i + 1) fs)
one_later IsSuch fs i f inside is not one =
    passed IsSuch f (drop (i + 1) fs) not (subst (OneOf IsSuch) (from_here fs i f inside is) one)

-- one of those behind a place is one of all
pub one_of_all : (IsSuch : List ℕ → Type 0) (fs : List (List ℕ)) (i : ℕ) → OneOf IsSuch (drop i fs) → OneOf IsSuch fs
one_of_all IsSuch fs zero one = one
one_of_all IsSuch [] (suc i) one = one
one_of_all IsSuch (f ∷ fs) (suc i) one = inr (one_of_all IsSuch fs i one)

pub none_left : (IsSuch : List ℕ → Type 0) (fs : List (List ℕ)) (i : ℕ) → length fs ≤ i → OneOf IsSuch (drop i fs) → ⊥
none_left IsSuch [] zero over one = one
none_left IsSuch [] (suc i) over one = one
none_left IsSuch (f ∷ fs) zero over one = absurd (omega arith)
none_left IsSuch (f ∷ fs) (suc i) over one = none_left IsSuch fs i (omega arith) one

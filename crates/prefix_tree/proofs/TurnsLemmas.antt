-- A turn more: what a map of turns has after one was put where none was.
use Rattle.std.proofs.Common.{◌≡◌, ◌⊎◌, ℕ, Bool, true, false, Option, None, Some, cond, sym, ◌∙◌, ap, inl, inr, ⊎_elim}
use Rattle.std.proofs.lemmas.Bool.{and_parts, cases_Bool, eqb-true}
use Rattle.std.specs.Prelude.{nat_eq, ◌&&◌}

-- where a test holds there was none, so what was there is there, and else only the new one is
module _ {K : Type 0} (test : K → Bool) (f g : K → Option ℕ) (new : ℕ) (puts : (q : K) → g q ≡ cond (test q) (Some new) (f q)) where
  pub stays : (q : K) (to : ℕ) → (test q ≡ true → f q ≡ None) → f q ≡ Some to → g q ≡ Some to
  stays q to absent was =
      ⊎_elim (λ (hit : test q ≡ true). absurd (none_some (sym (absent hit) ∙ was)))
      (λ (miss : test q ≡ false). puts q ∙ ap (λ b. cond b (Some new) (f q)) miss ∙ was) (cases_Bool (test q))
    where
      none_some : None ≡ Some to → ⊥
      none_some e = cc

  pub only : (q : K) (to : ℕ) → g q ≡ Some to → (f q ≡ Some to) ⊎ ((test q ≡ true) × (to ≡ new))
  only q to is =
      ⊎_elim (λ (hit : test q ≡ true). inr (hit, some to new (sym is ∙ puts q ∙ ap (λ b. cond b (Some new) (f q)) hit)))
      (λ (miss : test q ≡ false). inl (sym (puts q ∙ ap (λ b. cond b (Some new) (f q)) miss) ∙ is)) (cases_Bool (test q))
    where
      some : (a b : ℕ) → Some a ≡ Some b → a ≡ b
      some a b e = cc

pub pair_parts : (a b x y : ℕ) → (nat_eq a x && nat_eq b y) ≡ true → (x ≡ a) × (y ≡ b)
pair_parts a b x y hit =
    let parts = and_parts (nat_eq a x) (nat_eq b y) hit in
    (sym (eqb-true a x parts.0), sym (eqb-true b y parts.1))

pub triple_parts : (a b c x y z : ℕ) → ((nat_eq a x && nat_eq b y) && nat_eq c z) ≡ true → (x ≡ a) × (y ≡ b) × (z ≡ c)
triple_parts a b c x y z hit =
    let parts = and_parts (nat_eq a x && nat_eq b y) (nat_eq c z) hit in
    let pair = pair_parts a b x y parts.0 in
    (pair.0, pair.1, sym (eqb-true c z parts.1))

-- What stands at the front of a text, as a test that computes and as a relation, each from the other.
-- By induction over the front; the empty front and one of a single byte are cases of their own.
-- The module at the end takes a run of bytes that pass a test up to the first that doesn't.
use Rattle.std.proofs.Common.{◌≡◌, ℕ, suc, ◌+◌, ◌<◌, Bool, true, false, cond, ◌==◌, ◌⊎◌, inl, inr, List, [], ◌∷◌, ◌++◌, Some, None, length, take, refl, sym, ap, ◌∙◌, arith}
use Rattle.std.proofs.lemmas.Bool.{and_parts, eqb-true, eq-eqb, true≢false}
use Rattle.std.specs.List.{list_all, prefix_len}
use Rattle.ere_tree.specs.Front.{begins_with, starts}
use Rattle.ere_laws.specs.Spelling.{Begins}

pub begins_from : (front text : List ℕ) → starts front text ≡ true → Begins text front
unfolding begins_with
begins_from [] text is = (text, refl)
begins_from (b ∷ []) [] is = cc
begins_from (b ∷ []) (c ∷ text) is = (text, ap (λ x. x ∷ text) (eqb-true c b is))
begins_from (b ∷ d ∷ bytes) [] is = cc
begins_from (b ∷ d ∷ bytes) (c ∷ text) is =
    let parts = and_parts (c == b) (starts (d ∷ bytes) text) is in
    let rest = begins_from (d ∷ bytes) text parts.1 in
    let first : c ≡ b = eqb-true c b parts.0 in
    (rest.0, λ i. first i ∷ rest.1 i)

pub starts_at : (front rest : List ℕ) → starts front (front ++ rest) ≡ true
unfolding begins_with
starts_at [] rest = refl
starts_at (b ∷ []) rest = eq-eqb b b refl
starts_at (b ∷ d ∷ bytes) rest = rw (eq-eqb b b refl) (starts_at (d ∷ bytes) rest)

pub not_begins : (front text : List ℕ) → starts front text ≡ false → Begins text front → ⊥
not_begins front text is (rest, same) =
    true≢false (sym (starts_at front rest) ∙ ap (starts front) (sym same) ∙ is)

pub starts_not : (front text : List ℕ) → (Begins text front → ⊥) → starts front text ≡ false
starts_not front text not = by_value (starts front text) refl
  where
    by_value : (v : Bool) → starts front text ≡ v → v ≡ false
    by_value true is = absurd (not (begins_from front text is))
    by_value false is = refl

-- which way a choice went
pub chosen : {A : Type 0} (v : Bool) (x y z : A) → cond v x y ≡ z → ((v ≡ true) × (x ≡ z)) ⊎ ((v ≡ false) × (y ≡ z))
chosen true x y z is = inl (refl, is)
chosen false x y z is = inr (refl, is)

-- a run of bytes that pass a test, and the first that doesn't
module _ (p : ℕ → Bool) where
  pub run_ends : (run rest : List ℕ) → list_all p run ≡ true → begins_with p rest ≡ false
      → prefix_len p (run ++ rest) ≡ length run
  unfolding begins_with
  run_ends [] [] all none = refl
  run_ends [] (c ∷ rest) all none = rw none refl
  run_ends (b ∷ run) rest all none =
      let parts = and_parts (p b) (list_all p run) all in
      let more : prefix_len p (run ++ rest) ≡ length run = run_ends run rest parts.1 none in
      rw (parts.0, more) (omega arith)

  passes_first : (v : Bool) (c : ℕ) (text : List ℕ) → p c ≡ v → list_all p (take (prefix_len p text) text) ≡ true
      → list_all p (take (cond v (1 + prefix_len p text) 0) (c ∷ text)) ≡ true
  passes_first true c text is more =
      let same : 1 + prefix_len p text ≡ suc (prefix_len p text) = omega arith in rw (same, is) more
  passes_first false c text is more = refl

  pub run_passes : (text : List ℕ) → list_all p (take (prefix_len p text) text) ≡ true
  run_passes [] = refl
  run_passes (c ∷ text) = passes_first (p c) c text refl (run_passes text)

  pub run_some : (text : List ℕ) → begins_with p text ≡ true → 0 < prefix_len p text
  unfolding begins_with
  run_some [] is = cc
  run_some (c ∷ text) is = rw is (omega arith)

pub if_some : {A : Type 0} (v : Bool) (x y : A) → cond v (Some x) None ≡ Some y → (v ≡ true) × (x ≡ y)
if_some true x y is = (refl, cc)
if_some false x y is = cc

pub some_is : {A : Type 0} (x y : A) → Some x ≡ Some y → x ≡ y
some_is x y is = cc

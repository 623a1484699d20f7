-- Sets as lists of stamps: a set that is emptied by a new stamp, and what an insert does.
-- A node is a member where its stamp is the one of now; no stamp of the list is above it, so a new one has no member.
-- The hard one is `inserted`, which says all that an insert ensures.
use Rattle.std.proofs.Common.{◌≡◌, ℕ, ◌+◌, ◌<◌, ◌≤◌, Bool, true, false, not, cond, eqb, List, length, map, replicate, get_or, set, refl, sym, ◌∙◌, ap, arith, ext_get_or, length-set, eq-eqb, ne_eqb}
use Rattle.std.proofs.lemmas.List.{length-map, length-replicate, get_or-replicate, get_or-map, map-set, set-get_or}
use Rattle.std.proofs.lemmas.List.Sums.{sum_by-set, count_by-le-length}
use Rattle.std.proofs.lemmas.Bool.{not-true, not-false}
use Rattle.std.specs.Prelude.{All}
use Rattle.std.specs.Bool.{MatchBool}
use Rattle.ere_auto.specs.Marks.{members}

-- no mark carries a stamp above all marks
pub stamped_none : (marks : List ℕ) (stamp n : ℕ) → All (λ m. m < stamp) marks → length marks ≡ n
    → map (λ m. eqb m stamp) marks ≡ replicate n false
stamped_none marks stamp n below len =
    ext_get_or false _ _ (length-map marks _ ∙ len ∙ sym (length-replicate n false))
    (λ k h.
    let within : k < length marks = rw length-map at h in
    let lt : get_or marks k 0 < stamp = below k 0 within in
    get_or-map (λ m. eqb m stamp) marks k 0 false within
    ∙ ne_eqb _ _ (omega arith) ∙ sym (get_or-replicate n k false false (omega arith)))

pub stamped_set : (marks : List ℕ) (stamp k : ℕ)
    → map (λ m. eqb m stamp) (set marks k stamp) ≡ set (map (λ m. eqb m stamp) marks) k true
stamped_set marks stamp k =
    map-set (λ m. eqb m stamp) marks k stamp
    ∙ ap (set (map (λ m. eqb m stamp) marks) k) (eq-eqb stamp stamp refl)

pub members_le : (flags : List Bool) → members flags ≤ length flags
unfolding members
members_le flags = count_by-le-length (λ b. b) flags

-- a new member counts one more
pub members-set : (flags : List Bool) (k : ℕ) → k < length flags → not (get_or flags k false) ≡ true
    → members (set flags k true) ≡ members flags + 1
unfolding members
members-set flags k within new =
    let one : Bool → ℕ = λ b. cond b 1 0 in
    let e : members (set flags k true) + one (get_or flags k false) ≡ members flags + 1 = sum_by-set one flags k true false within in
    let f : one (get_or flags k false) ≡ 0 = ap one (not-true _ new) in
    omega arith

-- what an insert ensures
pub record Inserted (flags after : List Bool) (k : ℕ) (fresh : Bool) : Type 0 where
  pub new : fresh ≡ not (get_or flags k false)
  pub is : after ≡ set flags k true
  pub counted : MatchBool fresh (members after ≡ members flags + 1) (after ≡ flags)
  pub within : members after ≤ length flags
  pub len : length after ≡ length flags

counted : (flags : List Bool) (k : ℕ) (fresh : Bool) → k < length flags → fresh ≡ not (get_or flags k false)
    → MatchBool fresh (members (set flags k true) ≡ members flags + 1) (set flags k true ≡ flags)
counted flags k true within new = members-set flags k within (sym new)
counted flags k false within old = ap (set flags k) (sym (not-false _ (sym old))) ∙ set-get_or flags k false

pub inserted : (flags after : List Bool) (k : ℕ) (fresh : Bool) → k < length flags → fresh ≡ not (get_or flags k false)
    → after ≡ set flags k true → Inserted flags after k fresh
inserted flags after k fresh within new e = record {
  new = new;
  is = e;
  counted = rw e (counted flags k fresh within new);
  within = rw e (omega (arith, members_le (set flags k true), length-set flags k true));
  len = rw e (length-set flags k true);
}

-- Where the first block ends.
-- Shown: up to its label, or nowhere. Idea: induction on the directives before it. The hard one is `first-label`.
use Rattle.std.proofs.Common.{◌≡◌, ℕ, zero, suc, ◌<◌, ◌≤◌, List, [], ◌∷◌, Some, None, length, get_or, take, take_all, drop, refl, sym, ◌∙◌, ap, add-one, subst, arith}
use Rattle.std.specs.List.{AllByRecursion}
use Rattle.check_group.specs.declared.directive.Check.{Check}
use Rattle.pattern_parse.specs.declared.demand.Role.{Role}
use Rattle.pattern_parse.specs.declared.demand.Role.TheVariants.{Sought, Excluded, Unordered, Label}
use Rattle.check_scan.specs.Blocks.{Blocks, FirstLabel, IsLabel, block_before, blocks_of, in_first, labelled, last}

before-other : (check : Check) (role : Role) (blocks : Blocks) → (role ≡ Label → ⊥) → block_before check role blocks ≡ in_first check blocks
before-other check Sought blocks other = refl
before-other check Excluded blocks other = refl
before-other check Unordered blocks other = refl
before-other check Label blocks other = absurd (other refl)

first-label : (at : ℕ) (checks : List Check) (label : Check) → at < length checks → AllByRecursion (λ c. IsLabel c → ⊥) (take at checks)
    → label ≡ get_or checks at label → IsLabel label
    → blocks_of checks ≡ labelled (take (suc at) checks) label (blocks_of (drop (suc at) checks))
unfolding blocks_of
first-label zero [] label within each here is = absurd (omega (arith, within))
first-label zero (check ∷ checks) label within each here is =
    ap (λ k. block_before check k (blocks_of checks)) (ap (λ c. c.demand.role) (sym here) ∙ is)
    ∙ ap (λ c. labelled (check ∷ []) c (blocks_of checks)) (sym here)
first-label (suc at) [] label within each here is = absurd (omega (arith, within))
first-label (suc at) (check ∷ checks) label within each here is =
    before-other check check.demand.role (blocks_of checks) each.0
    ∙ ap (in_first check) (first-label at checks label (omega (arith, within)) each.1 here is)

same-item : (at : ℕ) (checks : List Check) (one other : Check) → at < length checks → one ≡ get_or checks at one
    → other ≡ get_or checks at other → other ≡ one
same-item zero [] one other within is also = absurd (omega (arith, within))
same-item zero (check ∷ checks) one other within is also = also ∙ sym is
same-item (suc at) [] one other within is also = absurd (omega (arith, within))
same-item (suc at) (check ∷ checks) one other within is also = same-item at checks one other (omega (arith, within)) is also

pub label_found : (checks : List Check) (at : ℕ) (label : Check) → at < length checks → label ≡ get_or checks at label
    → AllByRecursion (λ c. IsLabel c → ⊥) (take at checks) → IsLabel label → FirstLabel checks (Some at)
label_found checks at label within here each is = (
  within,
  λ other there. subst (λ n. blocks_of checks ≡ labelled (take n checks) other (blocks_of (drop n checks))) (sym (add-one at))
      (first-label at checks other within each there (ap (λ c. c.demand.role) (same-item at checks label other within here there) ∙ is)),
)

none-labelled : (checks : List Check) → AllByRecursion (λ c. IsLabel c → ⊥) checks → blocks_of checks ≡ last checks
unfolding blocks_of
none-labelled [] each = refl
none-labelled (check ∷ checks) each =
    before-other check check.demand.role (blocks_of checks) each.0 ∙ ap (in_first check) (none-labelled checks each.1)

pub label_none : (checks : List Check) (at : ℕ) → length checks ≤ at → AllByRecursion (λ c. IsLabel c → ⊥) (take at checks)
    → FirstLabel checks None
label_none checks at ends each = none-labelled checks (subst (AllByRecursion (λ c. IsLabel c → ⊥)) (take_all at checks ends) each)

-- The part in front of directives.
-- Shown: a maximal run of DAGs is one part, and so is another directive that isn't a NOT. Idea: induction on the run. The
-- hard one is `parts_run`.
use Rattle.std.proofs.Common.{◌≡◌, ℕ, suc, ◌<◌, ◌≤◌, Bool, true, false, List, [], ◌∷◌, ◌++◌, length, get_or, take, drop, refl, sym, ◌∙◌, ap, drop-cons, subst, arith}
use Rattle.std.proofs.lemmas.List.{drop_all}
use Rattle.std.specs.List.{AllByRecursion}
use Rattle.check_group.specs.declared.directive.Check.{Check}
use Rattle.pattern_parse.specs.declared.demand.Role.{Role}
use Rattle.pattern_parse.specs.declared.demand.Role.TheVariants.{Sought, Excluded, Unordered, Label}
use Rattle.check_scan.specs.Parts.{BeginsOtherwise, BeginsPositive, IsDag, IsNot, Part, alone, dags, finish, joined, negative, part_before, part_by, part_of, parts_before, parts_of, positive}

-- ---- runs of DAGs

joined_other : (check : Check) (parts : List Part) → BeginsOtherwise parts → joined check parts ≡ positive (dags (check ∷ [])) ∷ parts
joined_other check [] other = refl
joined_other check (negative c ∷ parts) other = refl
joined_other check (positive (alone c) ∷ parts) other = refl
joined_other check (positive (dags cs) ∷ parts) other = absurd other
joined_other check (finish ∷ parts) other = refl

parts_run : (end : Bool) (check : Check) (run rest : List Check) → check.demand.role ≡ Unordered → AllByRecursion IsDag run
    → BeginsOtherwise (parts_of end rest)
    → parts_of end (check ∷ run ++ rest) ≡ positive (dags (check ∷ run)) ∷ parts_of end rest
unfolding parts_before
parts_run end check [] rest is each other =
    ap (λ k. part_before check k (parts_of end rest)) is ∙ joined_other check (parts_of end rest) other
parts_run end check (next ∷ run) rest is each other =
    ap (λ k. part_before check k (parts_of end (next ∷ run ++ rest))) is
    ∙ ap (joined check) (parts_run end next run rest each.0 each.1 other)

begins-role : (check : Check) (role : Role) (parts : List Part) → (role ≡ Unordered → ⊥) → BeginsOtherwise (part_before check role parts)
begins-role check Sought parts other = tt
begins-role check Excluded parts other = tt
begins-role check Unordered parts other = absurd (other refl)
begins-role check Label parts other = tt

begins_other : (end : Bool) (check : Check) (rest : List Check) → (check.demand.role ≡ Unordered → ⊥) → BeginsOtherwise (parts_of end (check ∷ rest))
unfolding parts_before
begins_other end check rest other = begins-role check check.demand.role (parts_of end rest) other

begins_none : (end : Bool) → BeginsOtherwise (parts_of end [])
unfolding parts_before
begins_none true = tt
begins_none false = tt

-- the rest behind a run begins otherwise
pub begins_behind : (checks : List Check) (at : ℕ) (check : Check) (end : Bool) → at < length checks → check ≡ get_or checks at check
    → (IsDag check → ⊥) → BeginsOtherwise (parts_of end (drop at checks))
begins_behind checks at check end within is other =
    subst (λ cs. BeginsOtherwise (parts_of end cs))
    (sym (drop-cons checks at check within ∙ ap (λ c. c ∷ drop (suc at) checks) (sym is)))
    (begins_other end check (drop (suc at) checks) other)

pub begins_at_end : (checks : List Check) (at : ℕ) (end : Bool) → length checks ≤ at → BeginsOtherwise (parts_of end (drop at checks))
begins_at_end checks at end ends = subst (λ cs. BeginsOtherwise (parts_of end cs)) (sym (drop_all at checks ends)) (begins_none end)

dag-begins : (check : Check) (parts : List Part) → BeginsOtherwise (joined check parts) → ⊥
dag-begins check [] other = other
dag-begins check (negative c ∷ parts) other = other
dag-begins check (positive (alone c) ∷ parts) other = other
dag-begins check (positive (dags cs) ∷ parts) other = other
dag-begins check (finish ∷ parts) other = other

no-dag : (end : Bool) (check : Check) (behind : List Check) → check.demand.role ≡ Unordered → BeginsOtherwise (parts_of end (check ∷ behind)) → ⊥
unfolding parts_before
no-dag end check behind is other =
    dag-begins check (parts_of end behind) (subst (λ k. BeginsOtherwise (part_before check k (parts_of end behind))) is other)

-- ---- the part in front

-- a run of DAGs
pub part_dags : (checks front others behind : List Check) (check : Check) → front ++ others ≡ checks → checks ≡ check ∷ behind
    → IsDag check → AllByRecursion IsDag front → ((end : Bool) → BeginsOtherwise (parts_of end others))
    → (0 < length front) × ((end : Bool) → parts_of end checks ≡ positive (part_of front) ∷ parts_of end others)
part_dags checks [] others behind check split is dag each other =
    absurd (no-dag true check behind dag (subst (λ cs. BeginsOtherwise (parts_of true cs)) (split ∙ is) (other true)))
part_dags checks (first ∷ run) others behind check split is dag each other = (
  omega arith,
  λ end. ap (parts_of end) (sym split) ∙ parts_run end first run others each.0 each.1 (other end)
      ∙ ap (λ k. positive (part_by k first run) ∷ parts_of end others) (sym each.0),
)

alone-role : (check : Check) (role : Role) (parts : List Part) → (role ≡ Unordered → ⊥) → (role ≡ Excluded → ⊥)
    → part_before check role parts ≡ positive (part_by role check []) ∷ parts
alone-role check Sought parts no_dag no_not = refl
alone-role check Excluded parts no_dag no_not = absurd (no_not refl)
alone-role check Unordered parts no_dag no_not = absurd (no_dag refl)
alone-role check Label parts no_dag no_not = refl

-- another directive
pub part_alone : (checks behind : List Check) (check : Check) → checks ≡ check ∷ behind → (IsDag check → ⊥) → BeginsPositive checks
    → (end : Bool) → parts_of end checks ≡ positive (part_of (take 1 checks)) ∷ parts_of end (drop 1 checks)
unfolding parts_before
part_alone checks behind check is no_dag begins end =
    subst (λ cs. parts_of end cs ≡ positive (part_of (take 1 cs)) ∷ parts_of end (drop 1 cs)) (sym is)
    (alone-role check check.demand.role (parts_of end behind) no_dag (subst BeginsPositive is begins))

pub positive_first : (checks behind : List Check) (check : Check) → checks ≡ check ∷ behind → (IsNot check → ⊥) → BeginsPositive checks
positive_first checks behind check is other = subst BeginsPositive (sym is) other

pub positive_some : (checks : List Check) → BeginsPositive checks → 0 < length checks
positive_some [] begins = absurd begins
positive_some (check ∷ checks) begins = omega arith

-- ---- which part it is

pub part_is_dags : (part : List Check) (check : Check) → 0 < length part → check ≡ get_or part 0 check → IsDag check
    → part_of part ≡ dags part
part_is_dags [] check some is dag = absurd (omega (arith, some))
part_is_dags (first ∷ rest) check some is dag = ap (λ k. part_by k first rest) (ap (λ c. c.demand.role) (sym is) ∙ dag)

by-role : (role : Role) (check : Check) (rest : List Check) → (role ≡ Unordered → ⊥) → part_by role check rest ≡ alone check
by-role Sought check rest other = refl
by-role Excluded check rest other = refl
by-role Unordered check rest other = absurd (other refl)
by-role Label check rest other = refl

pub part_is_alone : (part : List Check) (check : Check) → 0 < length part → check ≡ get_or part 0 check → (IsDag check → ⊥)
    → part_of part ≡ alone check
part_is_alone [] check some is other = absurd (omega (arith, some))
part_is_alone (first ∷ rest) check some is other =
    by-role first.demand.role first rest (λ dag. other (ap (λ c. c.demand.role) is ∙ dag)) ∙ ap alone (sym is)

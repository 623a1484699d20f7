-- One turn of a block's loop.
-- Shown: a NOT joins those that are pending, a positive part closes them, and at the end nothing or the region that is left is
-- told. Idea: each is a step of the block, whatever follows it. The hard one is `block_not`.
use Rattle.std.proofs.Common.{◌≡◌, ℕ, zero, suc, ◌+◌, ◌≤◌, Bool, List, [], ◌∷◌, ◌++◌, All, Result, Ok, Err, length, take, drop, sym, ◌∙◌, ap, add-one, subst, arith}
use Rattle.std.proofs.lemmas.List.{drop_all}
use Rattle.tt_base.specs.declared.memory.NoMemory.{NoMemory}
use Rattle.check_group.specs.Changes.{IsPartWay, IsReady, Variables}
use Rattle.check_group.specs.declared.directive.Check.{Check}
use Rattle.check_scan.specs.Block.{End, block}
use Rattle.check_scan.specs.Parts.{IsNot, ending, part_before, part_of, parts_before, parts_of, positive}
use Rattle.check_scan.specs.Runs.{Ends, Finishes, Runs, Turns, block_at, part_at}
use Rattle.check_scan.specs.declared.progress.Progress.{Progress}
use Rattle.check_scan.specs.declared.progress.Going.TheVariants.{On, Over}
use Rattle.check_scan.specs.declared.subject.Subject.{Subject}
use Rattle.check_scan.proofs.RunsLemmas.{finishes, runs_ends, runs_part_way, runs_ready, runs_trans}

-- the part in front, cut off
pub parts_cut : (end : Bool) (rest part behind : List Check) (n : ℕ) → parts_of end rest ≡ positive (part_of (take n rest)) ∷ parts_of end (drop n rest)
    → part ≡ take n rest → behind ≡ drop n rest → parts_of end rest ≡ positive (part_of part) ∷ parts_of end behind
parts_cut end rest part behind n is front back =
    is ∙ ap (λ p. positive (part_of p) ∷ parts_of end (drop n rest)) (sym front)
    ∙ ap (λ b. positive (part_of part) ∷ parts_of end b) (sym back)

next-suc : {X : Type 0} → (n : ℕ) (xs ys : List X) (x : X) → drop n xs ≡ x ∷ ys
    → (take (suc n) xs ≡ take n xs ++ x ∷ []) × (drop (suc n) xs ≡ ys) × (suc n ≤ length xs)
next-suc zero [] ys x is = absurd (omega (arith, ap length is))
next-suc zero (y ∷ xs) ys x is = (cc, cc, omega arith)
next-suc (suc n) [] ys x is = absurd (omega (arith, ap length is))
next-suc (suc n) (y ∷ xs) ys x is =
    let rest = next-suc n xs ys x is in
    (ap (λ l. y ∷ l) rest.0, rest.1, omega (arith, rest.2))

-- the element in front of a rest is the next one
pub next : {X : Type 0} → (n : ℕ) (xs ys : List X) (x : X) → drop n xs ≡ x ∷ ys
    → (take (n + 1) xs ≡ take n xs ++ x ∷ []) × (drop (n + 1) xs ≡ ys) × (n + 1 ≤ length xs)
next n xs ys x is =
    subst (λ m. (take m xs ≡ take n xs ++ x ∷ []) × (drop m xs ≡ ys) × (m ≤ length xs)) (sym (add-one n)) (next-suc n xs ys x is)

module _ (subject : Subject) (end : Bool) (at : Progress) where
  -- a NOT joins those that are pending
  block-not : (check : Check) (rest pending : List Check) → IsNot check
      → block_at subject (parts_of end (check ∷ rest)) pending at ≡ block_at subject (parts_of end rest) (pending ++ check ∷ []) at
  unfolding block parts_before
  block-not check rest pending is = ap (λ k. block_at subject (part_before check k (parts_of end rest)) pending at) is

  pub block_not : (n : ℕ) (since behind : List Check) (check : Check) → drop n since ≡ check ∷ behind → IsNot check
      → block_at subject (parts_of end (drop n since)) (take n since) at
      ≡ block_at subject (parts_of end (drop (n + 1) since)) (take (n + 1) since) at
  block_not n since behind check seen is =
      let one = next n since behind check seen in
      ap (λ cs. block_at subject (parts_of end cs) (take n since) at) seen
      ∙ block-not check behind (take n since) is
      ∙ ap (λ cs. block_at subject (parts_of end cs) (take n since ++ check ∷ []) at) (sym one.1)
      ∙ ap (λ p. block_at subject (parts_of end (drop (n + 1) since)) p at) (sym one.0)

  -- the state of the loop, as the code cuts it
  pub runs_seen : (whole : End) (old : Progress) (n : ℕ) (since rest pending : List Check) → rest ≡ drop n since → pending ≡ take n since
      → Runs whole (block_at subject (parts_of end (drop n since)) (take n since) at) old at
      → Runs whole (block_at subject (parts_of end rest) pending at) old at
  runs_seen whole old n since rest pending same_rest same_pending on =
      subst (λ p. Runs whole (block_at subject (parts_of end rest) p at) old at) (sym same_pending)
      (subst (λ r. Runs whole (block_at subject (parts_of end r) (take n since) at) old at) (sym same_rest) on)

  module _ (whole : End) (old : Progress) (rest pending : List Check)
      (on : Runs whole (block_at subject (parts_of end rest) pending at) old at) where
    -- nothing is left
    pub block_ends : (new : Progress) (result : Result (Unit {0}) NoMemory) → length rest ≤ 0
        → Finishes (block_at subject (ending end) pending at) at new result → Finishes whole old new result
    unfolding parts_before
    block_ends new result none ends =
        finishes whole (block_at subject (ending end) pending at) old at new result
        (subst (λ cs. Runs whole (block_at subject (parts_of end cs) pending at) old at) (drop_all 0 rest none) on) ends

    -- a positive part closes what is pending
    module _ (part behind : List Check) (new : Progress) (is : parts_of end rest ≡ positive (part_of part) ∷ parts_of end behind) where
      left : ℕ → Variables → End
      left place vars = block subject.text.now subject.always.now (parts_of end behind) place [] vars

      abbrev step : (ℕ → Variables → End) → End
      step = part_at subject (subject.always.now ++ pending) (part_of part) at

      on-closed : Runs whole (step left) old at
      unfolding left block
      on-closed = subst (λ ps. Runs whole (block_at subject ps pending at) old at) is on

      -- the block goes on
      pub turn_on : Turns step at new (Ok On) → Runs whole (block_at subject (parts_of end behind) [] new) old new
      unfolding left
      turn_on turns = runs_trans whole _ old at on-closed (left new.place new.vars) new (turns left)

      pub turn_ready : (checks : List Check) → Turns step at new (Ok On) → All (IsReady at.vars) checks
          → All (IsReady new.vars) checks
      turn_ready checks turns each = runs_ready _ _ at new (turns left) checks each

      -- it ends
      pub turn_over : Turns step at new (Ok Over) → Ends whole old new
      turn_over turns = runs_ends whole _ old at on-closed new (turns left)

      -- memory runs out
      pub turn_left : (want : NoMemory) → Turns step at new (Err want) → IsPartWay whole.changes old.vars new.vars
      turn_left want turns = runs_part_way whole _ old at on-closed new.vars (turns left)

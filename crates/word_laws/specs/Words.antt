-- Words as steps one behind the other. After LLVM Command Guide: a value stands behind `=` or is the next word. Own rule: each
-- word belongs to one step.
use Rattle.std.specs.Prelude.{◌≡◌, ℕ, ◌+◌, ◌-◌, ◌<◌, ◌≤◌, Bool, false, IfSome, List, [], ◌∷◌, length, drop, Some, Ok}
use Rattle.std.specs.List.{cons_option}
use Rattle.opt_words.specs.Reading.{givens}
use Rattle.opt_words.specs.Step.{step}
use Rattle.opt_words.specs.declared.row.Row.{Row}
use Rattle.opt_words.specs.declared.step.Given.{Given}
use Rattle.opt_words.specs.declared.step.Step.{Step}

-- a step at a word, from which on there are so many, takes that word or the next one too, and gives what stands in these
pub record Takes (at count : ℕ) (one : Step) : Type 0 where
  pub onward : at < one.next
  pub short : one.next ≤ at + 2
  pub within : one.next ≤ at + count
  pub own : IfSome one.given (λ given. (at ≤ given.word) × (given.word < one.next))

-- words, of which the first has an index, are these steps and nothing else: each begins at the word behind the one before
abbrev pub AreSteps : List Row → Bool → ℕ → Bool → List (List ℕ) → List Step → Type 0
AreSteps rows stop_at_plain at only_plain words [] = words ≡ []
AreSteps rows stop_at_plain at only_plain words (one ∷ steps) =
    (step rows stop_at_plain at only_plain words ≡ Ok (Some one)) × Takes at (length words) one
    × AreSteps rows stop_at_plain one.next one.only_plain (drop (one.next - at) words) steps

-- what steps give, in order
abbrev pub givens_in : List Step → List Given
givens_in [] = []
givens_in (one ∷ steps) = cons_option one.given (givens_in steps)

-- Law: words without a fault are steps, and what the words give is what these give.
abbrev pub WordsAreSteps : Type 0
WordsAreSteps =
    (rows : List Row) (stop_at_plain : Bool) (words : List (List ℕ)) (all : List Given)
    → givens rows stop_at_plain words ≡ Ok all
    → (steps : List Step) × AreSteps rows stop_at_plain 0 false words steps × (all ≡ givens_in steps)

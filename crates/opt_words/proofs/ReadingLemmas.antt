-- What one word more gives: its row is given once more, last, and first where it was given never before.
-- By induction on what was given; the counts of the rows, and of the plain words, add up to its length.
-- The hard ones are `tally_row` and `tally_plain`.
use Rattle.std.proofs.Common.{◌≡◌, ◌==◌, ◌∙◌, ℕ, ◌+◌, ◌≤◌, List, [], ◌∷◌, ◌++◌, length, get_or, ◌<◌, Option, Some, None, refl, if◌then◌else◌, arith}
use Rattle.std.proofs.Math.ListN.{length-set, set}
use Rattle.std.proofs.lemmas.Grind.{common_steps}
use Rattle.std.specs.Option.{option_or}
use Rattle.opt_words.specs.Reading.{IsTally, first, last, last_behind, times}
use Rattle.opt_words.specs.declared.settings.Settings.{Settings}
use Rattle.opt_words.specs.declared.step.Given.{Given}

-- one more given counts for its row
pub times_one_more : (row : ℕ) (givens : List Given) (given : Given) →
    times row (givens ++ given ∷ []) ≡ times row givens + (if given.row == row then 1 else 0)
times_one_more row [] given = grind (arith, common_steps)
times_one_more row (one ∷ rest) given = grind (arith, common_steps, times_one_more row rest given)

-- and is the last of its row
pub last_one_more : (before : Option Given) (row : ℕ) (givens : List Given) (given : Given) →
    last_behind before row (givens ++ given ∷ []) ≡ (if given.row == row then Some given else last_behind before row givens)
last_one_more before row [] given = refl
last_one_more before row (one ∷ rest) given = last_one_more (if one.row == row then Some one else before) row rest given

-- and the first of its row where there was none
pub option_or_none : (one : Option Given) → option_or one None ≡ one
option_or_none None = refl
option_or_none (Some given) = refl

pub first_one_more : (row : ℕ) (givens : List Given) (given : Given) →
    first row (givens ++ given ∷ []) ≡ option_or (first row givens) (if given.row == row then Some given else None)
first_one_more row [] given = refl
first_one_more row (one ∷ rest) given = grind (arith, common_steps, first_one_more row rest given)

-- no row is given more often than all are
pub times_at_most : (row : ℕ) (givens : List Given) → times row givens ≤ length givens
times_at_most row [] = omega arith
times_at_most row (one ∷ rest) = grind (arith, common_steps, times_at_most row rest)

-- what is given for a row is counted there
pub tally_row : (n : ℕ) (givens : List Given) (s : Settings n) (given : Given) → IsTally n givens s → given.row < n
    → IsTally n (givens ++ given ∷ []) (record {
      times = set s.times given.row (get_or s.times given.row 0 + 1);
      last = set s.last given.row (Some given);
      plain = s.plain;
      first_plain = s.first_plain;
    })
tally_row n givens s given tally low = record {
  rows = (length-set s.times given.row _ ∙ tally.rows.0, length-set s.last given.row _ ∙ tally.rows.1);
  counted = λ row below. grind (arith, common_steps, tally.counted row below, times_one_more row givens given, tally.rows.0);
  latest = λ row below. grind (arith, common_steps, tally.latest row below, last_one_more None row givens given, tally.rows.1);
  others = grind (arith, common_steps, tally.others, times_one_more n givens given);
  foremost = grind (arith, common_steps, tally.foremost, first_one_more n givens given, option_or_none (first n givens));
}

-- and a plain word among the plain ones
pub tally_plain : (n : ℕ) (givens : List Given) (s : Settings n) (given : Given) (foremost : Option Given)
    → IsTally n givens s → given.row ≡ n → foremost ≡ option_or s.first_plain (Some given)
    → IsTally n (givens ++ given ∷ []) (record {
      times = s.times;
      last = s.last;
      plain = s.plain + 1;
      first_plain = foremost;
    })
tally_plain n givens s given foremost tally is first_or = record {
  rows = tally.rows;
  counted = λ row below. grind (arith, common_steps, tally.counted row below, times_one_more row givens given);
  latest = λ row below. grind (arith, common_steps, tally.latest row below, last_one_more None row givens given);
  others = grind (arith, common_steps, tally.others, times_one_more n givens given);
  foremost = grind (arith, common_steps, first_or, tally.foremost, first_one_more n givens given, option_or_none (first n givens));
}

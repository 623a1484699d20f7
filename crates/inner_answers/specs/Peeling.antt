-- What is kept of words that are peeled. Own form: indices in place of words.
use Rattle.std.specs.Prelude.{◌≡◌, ◌<◌, ℕ, All, Bool, List, drop, length, map}
use Rattle.inner_answers.specs.Peeled.{level_in, peel}
use Rattle.inner_answers.specs.declared.peeling.Peeling.{Peeling}

-- the commands of the `not`s of words stand among them, and behind these what is below
pub record IsPeeling (short : Bool) (words : List (List ℕ)) (peeling : Peeling) : Type 0 where
  pub levels : map (level_in words) peeling.levels ≡ (peel short 0 words).levels
  pub core : drop peeling.core words ≡ (peel short 0 words).core
  pub within : peeling.core < length words
  pub programs : All (λ command. command.first < length words) peeling.levels

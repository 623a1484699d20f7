-- The values of options that may be given again. Own rule: the order of the words.
use Rattle.std.specs.Prelude.{ℕ, ◌==◌, if◌then◌else◌, List, [], ◌∷◌}
use Rattle.std.specs.List.{flat_map}
use Rattle.opt_words.specs.Step.{value_of}
use Rattle.opt_words.specs.declared.step.Given.{Given}

-- the value, where it is one of the row
abbrev pub value_at : ℕ → List (List ℕ) → Given → List (List ℕ)
value_at row words given = if given.row == row then value_of words given ∷ [] else []

-- the values of a row
abbrev pub values : ℕ → List (List ℕ) → List Given → List (List ℕ)
values row words all = flat_map (value_at row words) all

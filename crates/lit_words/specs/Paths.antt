-- The paths of tests.
-- After LLVM Command Guide, lit: the words that are no options. Own rule: there is one at least.
use Rattle.std.specs.Prelude.{ℕ, ◌==◌, if◌then◌else◌, List, [], ◌∷◌, Result, Ok, Err}
use Rattle.std.specs.List.{flat_map}
use Rattle.opt_words.specs.Step.{value_of}
use Rattle.opt_words.specs.declared.step.Given.{Given}
use Rattle.lit_words.specs.declared.fault.LitWordsFault.{LitWordsFault}
use Rattle.lit_words.specs.declared.fault.LitWordsFault.TheVariants.{NoPath}

-- the value, where it is a plain word
abbrev pub path_of : List (List ℕ) → Given → List (List ℕ)
path_of words given = if given.row == 11 then value_of words given ∷ [] else []

-- the plain words, in order
abbrev pub paths_of : List (List ℕ) → List Given → List (List ℕ)
paths_of words all = flat_map (path_of words) all

abbrev pub some_paths : List (List ℕ) → Result (List (List ℕ)) LitWordsFault
some_paths [] = Err NoPath
some_paths (path ∷ paths) = Ok (path ∷ paths)

-- What holds of each suite that is read.
-- Own rule: a suite has suffixes, and neither a suffix nor the name of a replacement is empty.
use Rattle.std.specs.Prelude.{◌≡◌, ℕ, ◌<◌, List, length, All, Ok}
use Rattle.tt_outside.specs.declared.request.Pair.{Pair}
use Rattle.lit_suite.specs.declared.suite_file.Suite.{Suite}
use Rattle.lit_suite.specs.Suites.{suite_file}

-- no text is empty
abbrev pub AreFull : List (List ℕ) → Type 0
AreFull texts = All (λ text. 0 < length text) texts

-- no name is empty
abbrev pub AreNamed : List Pair → Type 0
AreNamed pairs = All (λ pair. 0 < length pair.name) pairs

pub record IsWhole (suite : Suite) : Type 0 where
  pub some : 0 < length suite.suffixes
  pub full : AreFull suite.suffixes
  pub named : AreNamed suite.substitutions
  pub parts_named : All (λ part. AreNamed part.substitutions) suite.parts

-- each suite that is read is whole
abbrev pub ReadingIsWhole : Type 0
ReadingIsWhole = (bytes : List ℕ) (suite : Suite) → suite_file bytes ≡ Ok suite → IsWhole suite

-- What scanning may rely on in a program.
-- Own rules: directives are numbered from 0, those of every region behind those of lines; each name has a place.
use Rattle.std.specs.Prelude.{◌≡◌, ℕ, ◌+◌, List, [], ◌∷◌, ◌++◌, All}
use Rattle.check_group.specs.Changes.{IsReady, Variables}
use Rattle.check_group.specs.declared.directive.Check.{Check}
use Rattle.check_program.specs.declared.program.Program.{Program}
use Rattle.pattern_vars.specs.Vars.{HavePlaces}

-- directives are numbered one by one from a number on
abbrev pub AreNumbered : ℕ → List Check → Type 0
AreNumbered number [] = Unit {0}
AreNumbered number (check ∷ checks) = (check.number ≡ number) × AreNumbered (number + 1) checks

-- where each of these names has a place, directives can be sought, and what they define has places
abbrev pub AreReady : List (List ℕ) → List Check → Type 0
AreReady names checks = (vars : Variables) → HavePlaces vars names → All (IsReady vars) checks

-- a program can be scanned with: its directives are numbered one by one, and ready where each of its names has a place
pub record IsScannable (program : Program) : Type 0 where
  pub numbered : AreNumbered 0 (program.checks ++ program.always)
  pub ready : AreReady program.names program.checks
  pub always_ready : AreReady program.names program.always

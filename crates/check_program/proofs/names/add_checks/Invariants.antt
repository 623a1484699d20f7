use Rattle.std.proofs.Common.{◌≡◌, ◌++◌, ℕ, List, drop}
use Rattle.check_program.specs.Names.{names_all}
use Rattle.pattern_instance.specs.Views.{still_told}
use Rattle.check_program.proofs.names.add_checks.Given as goal

abbrev pub invariant-loop-check : goal.invariant-loop-check
invariant-loop-check l = (rest : List (List ℕ)) →
    still_told l.names (names_all (drop l.check-index l.checks) ++ rest)
    ≡ still_told l.fn.names (names_all l.checks ++ rest)

-- What is found hangs on what scanning sees of directives, and on nothing else that their patterns hold. Own rule.
use Rattle.std.specs.Prelude.{◌≡◌, ℕ, Bool, List, map}
use Rattle.check_group.specs.Changes.{Variables}
use Rattle.check_group.specs.declared.directive.Check.{Check}
use Rattle.check_scan.specs.Verdict.{scan}
use Rattle.compile_laws.specs.Laws.{seen}

-- Law: directives that scanning sees in one way have one verdict on a text.
abbrev pub VerdictIsOfSeen : Type 0
VerdictIsOfSeen =
    (checks others always implicit : List Check) (scope : Bool) (text : List ℕ) (vars : Variables)
    → map seen checks ≡ map seen others → map seen always ≡ map seen implicit
    → scan checks always scope text vars ≡ scan others implicit scope text vars

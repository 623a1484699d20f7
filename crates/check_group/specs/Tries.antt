-- Directives that are sought again and again.
-- Own rule: what doesn't depend on the place is made once.
use Rattle.std.specs.Prelude.{List}
use Rattle.pattern_scan.specs.Ready.{IsBuilt, IsReady}
use Rattle.pattern_vars.specs.Vars.{bound_all}
use Rattle.pattern_vars.specs.declared.binding.Binding.{Binding}
use Rattle.check_group.specs.Changes.{Variables}
use Rattle.check_group.specs.declared.directive.Check.{Check}
use Rattle.check_group.specs.declared.tries.Tries.{Tries}
use Rattle.check_group.specs.declared.tries.Tries.TheVariants.{Fresh, Plain, Built}

-- what is made, if anything is, is for this directive with these variables
abbrev pub AreFor : Tries → Check → Variables → Type 0
AreFor Fresh check vars = Unit {0}
AreFor Plain check vars = Unit {0}
AreFor (Built ready) check vars = IsReady ready.value check.pattern vars check.line × IsBuilt ready.value

-- what is made for a directive is so once these bindings are made
abbrev pub Outlast : Tries → List Binding → Tries → Type 0
Outlast old fresh new =
    (check : Check) (vars : Variables) → AreFor old check vars → AreFor new check (bound_all vars fresh)

-- Patterns that are made ready.
-- Own rule: what doesn't depend on the place is made once.
use Rattle.std.specs.Prelude.{◌≡◌, ℕ, Bool, List, true}
use Rattle.std.specs.FinMap.{FinMap}
use Rattle.num_base.specs.Names.{name_cmp}
use Rattle.pattern_instance.specs.Instance.{Instance, undefined, faulty, made}
use Rattle.pattern_instance.specs.Views.{instance_by, instance_view}
use Rattle.pattern_parse.specs.PieceView.{items_view}
use Rattle.pattern_parse.specs.declared.pattern.Pattern.{Pattern}
use Rattle.pattern_scan.specs.Means.{IsFor, Shows}
use Rattle.pattern_scan.specs.Seek.{IsShown, is_expressed, sought_of}
use Rattle.pattern_scan.specs.declared.means.Means.{Means}
use Rattle.pattern_scan.specs.declared.ready.Ready.{Ready}
use Rattle.pattern_scan.specs.declared.sought.Sought.{Sought}
use Rattle.pattern_vars.specs.declared.vars.Held.{Held}

-- the means is for the instance, and shows each byte where the pattern is expressed
abbrev pub IsBuiltFor : Instance → Means → Bool → Type 0
IsBuiltFor (undefined names) means expressed = Unit {0}
IsBuiltFor (faulty fault) means expressed = Unit {0}
IsBuiltFor (made t gifts) means expressed = IsFor means t × (expressed ≡ true → Shows means)

abbrev pub IsBuilt : Ready → Type 0
IsBuilt ready = IsBuiltFor (instance_view ready.instance) ready.means ready.is_expressed

-- what it answers in the slice from an offset
abbrev pub sought_by : Ready → List ℕ → ℕ → Sought
sought_by ready text from = sought_of ready.fold text from (instance_view ready.instance)

-- what it has shown to an automaton in the slice from an offset
abbrev pub IsShownBy : Ready → List ℕ → ℕ → ℕ → Type 0
IsShownBy ready text from shown = IsShown ready.is_expressed text from (instance_view ready.instance) shown

-- it is the pattern of a directive of this line, with these variables
pub record IsReady (ready : Ready) (pattern : Pattern) (vars : FinMap name_cmp Held) (line : ℕ) : Type 0 where
  pub instance : instance_view ready.instance ≡ instance_by vars line pattern
  pub fold : ready.fold ≡ pattern.fold
  pub expressed : ready.is_expressed ≡ is_expressed (items_view pattern.pieces)

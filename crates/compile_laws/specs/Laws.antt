-- What the bodies of a check file come to is one thing. Own rule.
use Rattle.std.specs.Prelude.{◌≡◌, ℕ, Bool, List, map}
use Rattle.check_group.specs.declared.directive.Check.{Check}
use Rattle.pattern_parse.specs.declared.demand.Demand.{Demand}
use Rattle.check_program.specs.Compiled.{AreChecks, Body, Formats, IsRefused}
use Rattle.check_program.specs.declared.program.CompileOpts.{CompileOpts}
use Rattle.pattern_parse.specs.Item.{Item}
use Rattle.pattern_parse.specs.PieceView.{items_view}
use Rattle.pattern_parse.specs.declared.fault.PatFault.{PatFault}
use Rattle.pattern_parse.specs.declared.pattern.Frame.{Frame}

-- what scanning looks at in a directive
pub record Seen : Type 0 where
  pub number : ℕ
  pub demand : Demand
  pub line : ℕ
  pub pieces : List Item
  pub frame : Frame
  pub fold : Bool

abbrev pub seen : Check → Seen
seen check = record {
  number = check.number;
  demand = check.demand;
  line = check.line;
  pieces = items_view check.pattern.pieces;
  frame = check.pattern.frame;
  fold = check.pattern.fold;
}

-- Law: bodies are directives that scanning sees in one way, behind which the same formats are known.
abbrev pub ChecksAreOne : Type 0
ChecksAreOne =
    (opts : CompileOpts) (number : ℕ) (old : Formats) (bodies : List Body) (checks others : List Check)
    (new last : Formats) → AreChecks opts number old bodies checks new → AreChecks opts number old bodies others last
    → (map seen checks ≡ map seen others) × (new ≡ last)

-- Law: no bodies are both directives and refused.
abbrev pub NotBoth : Type 0
NotBoth =
    (opts : CompileOpts) (number : ℕ) (old : Formats) (bodies : List Body) (checks : List Check) (told : ℕ)
    (fault : PatFault) (new last : Formats) → AreChecks opts number old bodies checks new
    → IsRefused opts number old bodies told fault last → ⊥

-- Law: bodies are refused at one directive, for one fault, behind the same formats.
abbrev pub RefusalIsOne : Type 0
RefusalIsOne =
    (opts : CompileOpts) (number : ℕ) (old : Formats) (bodies : List Body) (told other : ℕ) (fault why : PatFault)
    (new last : Formats) → IsRefused opts number old bodies told fault new
    → IsRefused opts number old bodies other why last → (told ≡ other) × (fault ≡ why) × (new ≡ last)

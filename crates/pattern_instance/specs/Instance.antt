-- The instance of a pattern: the expression that is sought once variables have their values, with what a match gives.
-- After LLVM Command Guide, FileCheck, 'FileCheck String Substitution Blocks', 'FileCheck Numeric Substitution Blocks' and
-- --match-full-lines. Own rules: names without a value are told before all faults, and then the first fault from the left.
use Rattle.std.specs.Prelude.{ℕ, List, [], ◌∷◌, ◌++◌, None, Result, Ok, Err}
use Rattle.std.specs.FinMap.{empty}
use Rattle.ere_tree.specs.Tree.{Tree, plain, line_start, line_end, cat, repeat, trees_of}
use Rattle.num_base.specs.declared.evaluation.EvalFault.{EvalFault}
use Rattle.pattern_parse.specs.Item.{Item}
use Rattle.pattern_parse.specs.declared.pattern.Frame.{Frame}
use Rattle.pattern_parse.specs.declared.pattern.Frame.TheVariants.{Open, Spaced, Tight}
use Rattle.pattern_instance.specs.Known.{Known}
use Rattle.pattern_instance.specs.Missing.{missing}
use Rattle.pattern_instance.specs.Parts.{Parts, parts_from}
use Rattle.pattern_instance.specs.declared.gift.Gift.{Gift}

-- any number of spaces
abbrev pub spaces : Tree
spaces = repeat (plain (32 ∷ [])) 0 None

-- what stands before and behind the pieces
abbrev pub before : Frame → List Tree
before Open = []
before Tight = line_start ∷ []
before Spaced = line_start ∷ spaces ∷ []

abbrev pub behind : Frame → List Tree
behind Open = []
behind Tight = line_end ∷ []
behind Spaced = spaces ∷ line_end ∷ []

-- the instance, or what is told in its place: names without a value, else a fault
pub data Instance : Type 0 where
  undefined : List (List ℕ) → Instance
  faulty : EvalFault → Instance
  made : Tree → List Gift → Instance

abbrev pub made_of : Frame → Result Parts EvalFault → Instance
made_of frame (Ok parts) = made (cat (trees_of ((before frame ++ parts.trees) ++ behind frame))) parts.gifts
made_of frame (Err fault) = faulty fault

abbrev pub unless_missing : List (List ℕ) → Instance → Instance
unless_missing [] instance = instance
unless_missing (name ∷ names) instance = undefined (name ∷ names)

abbrev pub instance_of : Known → Frame → List Item → Instance
instance_of known frame items =
    unless_missing (missing known items) (made_of frame (parts_from known 0 empty items))

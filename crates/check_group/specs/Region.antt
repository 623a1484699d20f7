-- Regions of NOTs.
-- After LLVM Command Guide, FileCheck, CHECK-NOT and --implicit-check-not. Own rule: all faults of a region are told.
use Rattle.std.specs.Prelude.{◌≡◌, ℕ, Bool, false, ◌⊎◌, List, [], ◌∷◌, drop, IfSome, Option, Some, None}
use Rattle.pattern_parse.specs.Item.{Item, plain, regex, define, recall, number}
use Rattle.pattern_parse.specs.PieceView.{items_view}
use Rattle.pattern_parse.specs.declared.pattern.Frame.TheVariants.{Open}
use Rattle.pattern_parse.specs.declared.pattern.Pattern.{Pattern}
use Rattle.pattern_scan.specs.Seek.{sought}
use Rattle.pattern_scan.specs.declared.seeking.Context.{Context}
use Rattle.pattern_scan.specs.declared.sought.Sought.{Sought}
use Rattle.pattern_scan.specs.declared.sought.Sought.TheVariants.{Found, Absent, UndefinedNames, Range, ZeroDivisor, Unreadable}
use Rattle.text_windows.specs.Windows.{Covers, Exclude}
use Rattle.check_group.specs.Changes.{Variables}
use Rattle.check_group.specs.Matches.{sought_for}
use Rattle.check_group.specs.declared.directive.Check.{Check}
use Rattle.check_group.specs.declared.fault.Fault.{Fault}
use Rattle.check_group.specs.declared.fault.FaultKind.{FaultKind}
use Rattle.check_group.specs.declared.fault.FaultKind.TheVariants as fault

-- the fault of a NOT whose search answers so, if it is one
abbrev pub excluded_by : Sought → Option FaultKind
excluded_by (Found span fresh) = Some (fault.Excluded span.from)
excluded_by Absent = None
excluded_by (UndefinedNames names) = Some (fault.Undefined names)
excluded_by Range = Some fault.Range
excluded_by ZeroDivisor = Some fault.ZeroDivisor
excluded_by (Unreadable span) = Some (fault.Unreadable span.from)

abbrev pub fault_before : Check → Option FaultKind → List Fault → List Fault
fault_before check None faults = faults
fault_before check (Some kind) faults = record { directive = check.number; kind = kind } ∷ faults

-- the faults of NOTs, each sought in the slice from an offset to the text's end
unfoldable pub region : List ℕ → ℕ → Variables → List Check → List Fault
region text from vars [] = []
region text from vars (check ∷ nots) =
    fault_before check (excluded_by (sought check.pattern vars text from check.line)) (region text from vars nots)

-- the fault of one NOT, and those of some, where a search sees the text and the variables
abbrev pub excluded_in : Context → Check → ℕ → Option FaultKind
excluded_in context check from = excluded_by (sought_for context check from)

abbrev pub region_in : Context → ℕ → List Check → List Fault
region_in context from nots = region context.text.now from context.vars.now nots

-- windows that are known are those of the text
abbrev pub AreOf : List ℕ → Option (List Bool) → Type 0
AreOf text known = IfSome known (λ windows. Covers windows text)

-- a pattern is found in no slice of which these are the windows, whatever variables hold
abbrev pub IsToldAbsent : Option (List Bool) → Pattern → Type 0
IsToldAbsent known pattern =
    (text : List ℕ) (from : ℕ) → AreOf (drop from text) known → (vars : Variables) (line : ℕ)
    → sought pattern vars text from line ≡ Absent

-- pieces that are the same whatever variables hold: none of them uses one
abbrev pub AreFixed : List Item → Type 0
AreFixed [] = Unit {0}
AreFixed (plain bytes ∷ items) = AreFixed items
AreFixed (regex t ∷ items) = AreFixed items
AreFixed (define name t ∷ items) = AreFixed items
AreFixed (recall name ∷ items) = ⊥
AreFixed (number num format ∷ items) = ⊥

-- a pattern of such pieces, with nothing around them, and with letters as they stand
pub record IsFixed (pattern : Pattern) : Type 0 where
  pub fold : pattern.fold ≡ false
  pub frame : pattern.frame ≡ Open
  pub pieces : AreFixed (items_view pattern.pieces)

-- one of the pieces is this plain text
abbrev pub HasPlain : List Item → List ℕ → Type 0
HasPlain [] bytes = ⊥
HasPlain (one ∷ items) bytes = (one ≡ plain bytes) ⊎ HasPlain items bytes

-- one of the pieces is a plain text that stands in no text of these windows
pub record LackPlain (windows : List Bool) (items : List Item) : Type 0 where
  pub bytes : List ℕ
  pub has : HasPlain items bytes
  pub lack : Exclude windows bytes

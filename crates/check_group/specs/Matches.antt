-- Searches, and what a positive directive comes to.
-- After LLVM Command Guide, FileCheck: a directive matches the first occurrence of its pattern behind the match before, and
-- binds what it defines.
use Rattle.std.specs.Prelude.{◌≡◌, ◌≤◌, ℕ, true, List, [], ◌∷◌, length, Result, Ok, Err}
use Rattle.pattern_vars.specs.Vars.{have_places}
use Rattle.pattern_vars.specs.declared.binding.Binding.{Binding}
use Rattle.pattern_scan.specs.Seek.{sought}
use Rattle.pattern_scan.specs.declared.seeking.Context.{Context}
use Rattle.pattern_scan.specs.declared.sought.Sought.{Sought}
use Rattle.pattern_scan.specs.declared.sought.Sought.TheVariants.{Found, Absent, UndefinedNames, Range, ZeroDivisor, Unreadable}
use Rattle.check_group.specs.Changes.{Change, Variables, binds}
use Rattle.check_group.specs.declared.answer.Matched.{Matched}
use Rattle.check_group.specs.declared.answer.Met.{Met}
use Rattle.check_group.specs.declared.directive.Check.{Check}
use Rattle.check_group.specs.declared.fault.Fault.{Fault}
use Rattle.check_group.specs.declared.fault.FaultKind.{FaultKind}
use Rattle.check_group.specs.declared.fault.FaultKind.TheVariants as fault

-- a search's answer as a match or a fault; `absent` is the fault where nothing is found
abbrev pub answered : Sought → FaultKind → Result Met FaultKind
answered (Found span fresh) absent = Ok (record { span = span; fresh = fresh })
answered Absent absent = Err absent
answered (UndefinedNames names) absent = Err (fault.Undefined names)
answered Range absent = Err fault.Range
answered ZeroDivisor absent = Err fault.ZeroDivisor
answered (Unreadable span) absent = Err (fault.Unreadable span.from)

-- a directive sought in the slice from an offset to the text's end, behind so many matches of the same directive
abbrev pub looked : List ℕ → Variables → Check → ℕ → ℕ → Result Met FaultKind
looked text vars check done from = answered (sought check.pattern vars text from check.line) (fault.NotFound from done)

-- the search for a directive, where it sees the text and the variables
abbrev pub sought_for : Context → Check → ℕ → Sought
sought_for context check from = sought check.pattern context.vars.now context.text.now from check.line

-- and what it comes to
abbrev pub looked_in : Context → Check → ℕ → ℕ → Result Met FaultKind
looked_in context check done from = looked context.text.now context.vars.now check done from

-- a match lies in a slice, and each name that it gives something has a place
pub record Fits (vars : Variables) (from to : ℕ) (m : Met) : Type 0 where
  pub low : from ≤ m.span.from
  pub high : m.span.to ≤ to
  pub placed : have_places vars m.fresh ≡ true

-- the slice is that from an offset to the end of the text that a search sees
abbrev pub FitsIn : Context → ℕ → Met → Type 0
FitsIn context from m = Fits context.vars.now from (length context.text.now) m

-- what a positive directive or a group comes to: where it matched or its fault, and what it changed up to there
pub record Came : Type 0 where
  pub outcome : Result Matched Fault
  pub changes : List Change

abbrev pub fails : Check → FaultKind → Came
fails check kind = record { outcome = Err (record { directive = check.number; kind = kind }); changes = [] }

-- what follows behind a binding, which stays also where that fails
abbrev pub behind : List Binding → Came → Came
behind fresh came = record { outcome = came.outcome; changes = binds fresh ∷ came.changes }

-- what follows a match; a fault is the directive's
abbrev pub if_met : Check → Result Met FaultKind → (Met → Came) → Came
if_met check (Ok m) on = on m
if_met check (Err kind) on = fails check kind

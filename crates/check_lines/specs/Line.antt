-- What one line of a check file holds.
-- After LLVM Command Guide, FileCheck: a directive's text is the rest of its line, without blanks at both ends.
-- Own rules: which lines are refused, and why first.
use Rattle.std.specs.Prelude.{◌≡◌, ◌<◌, ◌≤◌, ⊤, ℕ, ◌+◌, ◌-◌, ◌==◌, Bool, true, false, ◌&&◌, ◌||◌, not, if◌then◌else◌, List, take, drop, length, Option, None, Some, Result, Ok, Err, IfSome}
use Rattle.std.specs.List.{prefix_len, suffix_len}
use Rattle.tt_base.specs.Place.{span_of}
use Rattle.tt_base.specs.declared.place.Place.{Place}
use Rattle.check_lines.specs.Class.{has}
use Rattle.check_lines.specs.Decision.{check_count, decide}
use Rattle.check_lines.specs.Kind.{demand_of}
use Rattle.check_lines.specs.declared.class.Class.TheVariants.{Blank}
use Rattle.check_lines.specs.declared.decision.Decision.{Decision}
use Rattle.check_lines.specs.declared.decision.LineMark.{LineMark}
use Rattle.check_lines.specs.declared.decision.LineMark.TheVariants.{Comment, Check}
use Rattle.check_lines.specs.declared.directive.Directive.{Directive}
use Rattle.pattern_parse.specs.Demand.{asks_line, takes_none}
use Rattle.check_lines.specs.declared.fault.CheckFault.{CheckFault}
use Rattle.check_lines.specs.declared.fault.CheckKind.{CheckKind}
use Rattle.check_lines.specs.declared.fault.CheckKind.TheVariants.{Line}
use Rattle.check_lines.specs.declared.fault.LineFault.{LineFault}
use Rattle.check_lines.specs.declared.fault.LineFault.TheVariants.{EmptyPattern, NonEmptyForEmpty, NoEarlierCheck}
use Rattle.check_lines.specs.declared.line.Head.{Head}
use Rattle.check_lines.specs.declared.line.LineAt.{LineAt}
use Rattle.check_lines.specs.declared.line.Rules.{Rules}
use Rattle.check_lines.specs.declared.suffix.Spelling.TheVariants.{Good, Bad}
use Rattle.check_lines.specs.declared.suffix.Spelled.{Spelled}

-- ---- the body

-- how many blanks stand at an offset of a line
abbrev pub blanks_at : List ℕ → ℕ → ℕ
blanks_at line behind = prefix_len (has Blank) (drop behind line)

-- where the body behind an offset begins: behind the blanks there, unless they are kept or nothing else is left
abbrev pub body_start : Bool → List ℕ → ℕ → ℕ
body_start keep line behind =
    if keep || length line == behind + blanks_at line behind then behind else behind + blanks_at line behind

-- how long the rest of a line is, without the blanks at its end unless they are kept
abbrev pub body_length : Bool → List ℕ → ℕ
body_length keep rest = if keep then length rest else length rest - suffix_len (has Blank) rest

-- ---- a line with a directive

-- a fault at an offset of a line. Lines count from 1, and `start` is where the line begins in its text
abbrev pub fault_at : ℕ → ℕ → ℕ → CheckKind → CheckFault
fault_at number start at kind =
    record { at = start + at; place = record { line = number; col = at + 1 }; kind = kind }

-- the directive with its prefix at `head` and a body of `count` bytes at `from`, offsets of its line
abbrev pub directive : ℕ → ℕ → ℕ → ℕ → ℕ → Spelled → ℕ → Directive
directive number start head from count suffix index = record {
  at = start + head;
  line = number;
  head = head + 1;
  col = from + 1;
  prefix = index;
  kind = suffix.kind;
  literal = suffix.literal;
  body = span_of (start + from) count;
}

-- the first thing that is wrong with a directive, and where: its prefix is at `head`, its body behind `behind` at `from`
abbrev pub mistake : Bool → Spelled → List ℕ → ℕ → ℕ → ℕ → Option (ℕ × LineFault)
mistake earlier suffix body head behind from =
    let rule = (demand_of suffix.kind).rule in
    if not (takes_none rule) && length body == 0 then Some (behind, EmptyPattern)
    else if takes_none rule && not (length body == 0) then Some (from, NonEmptyForEmpty)
    else if asks_line rule && not earlier then Some (head, NoEarlierCheck)
    else None

abbrev pub unless_mistaken : ℕ → ℕ → Option (ℕ × LineFault) → Directive → Result (Option Directive) CheckFault
unless_mistaken number start None one = Ok (Some one)
unless_mistaken number start (Some mistake) one = Err (fault_at number start mistake.0 (Line mistake.1))

-- a line with a good suffix behind the prefix at `head`, whose colon ends at `behind`
abbrev pub checked : Bool → Bool → ℕ → ℕ → List ℕ → ℕ → ℕ → Spelled → ℕ → Result (Option Directive) CheckFault
checked keep earlier number start line head behind suffix index =
    let from = body_start keep line behind in
    let count = body_length keep (drop from line) in
    unless_mistaken number start (mistake earlier suffix (take count (drop from line)) head behind from)
    (directive number start head from count suffix index)

-- what a decided line holds
abbrev pub marked : Bool → Bool → ℕ → ℕ → List ℕ → ℕ → LineMark → Result (Option Directive) CheckFault
marked keep earlier number start line head Comment = Ok None
marked keep earlier number start line head (Check prefix (Good spelled)) =
    checked keep earlier number start line head (head + prefix.length + spelled.count) spelled prefix.index
marked keep earlier number start line head (Check prefix (Bad fault)) = Err (fault_at number start head (Line fault))

abbrev pub decided : Bool → Bool → ℕ → ℕ → List ℕ → Option Decision → Result (Option Directive) CheckFault
decided keep earlier number start line None = Ok None
decided keep earlier number start line (Some found) = marked keep earlier number start line found.at found.mark

-- what a line holds: a directive, nothing, or its refusal. `earlier` says whether a match comes before it
abbrev pub read_line : List (List ℕ) → List (List ℕ) → Bool → Bool → ℕ → ℕ → List ℕ → Result (Option Directive) CheckFault
read_line checks comments keep earlier number start line =
    decided keep earlier number start line (decide checks comments line)

-- the same by the code's rules
abbrev pub line_by : Rules → Bool → LineAt → List ℕ → Result (Option Directive) CheckFault
line_by rules earlier place line =
    read_line rules.prefixes.checks.prefixes.now rules.prefixes.comments.prefixes.now rules.keep_blanks earlier
    place.number place.start line

-- how many check prefixes rules have
abbrev pub prefix_count : Rules → ℕ
prefix_count rules = check_count rules.prefixes

-- a line with a good suffix, and its directive, by the head that decides it
abbrev pub checked_by : Bool → Bool → LineAt → List ℕ → Head → Result (Option Directive) CheckFault
checked_by keep earlier place line head =
    checked keep earlier place.number place.start line head.at head.behind head.suffix head.prefix

abbrev pub directive_by : LineAt → Head → ℕ → ℕ → Directive
directive_by place head from count = directive place.number place.start head.at from count head.suffix head.prefix

-- ---- where it stands

-- a place of the line with that number, which begins at `start` and ends at `end`, is that of an offset
pub record IsOnLine (number start end at : ℕ) (place : Place) : Type 0 where
  pub line : place.line ≡ number
  pub col : start + place.col ≡ at + 1
  pub low : start ≤ at
  pub high : at ≤ end

-- what a line holds stands on it
abbrev pub LiesOnLine : ℕ → ℕ → ℕ → Result (Option Directive) CheckFault → Type 0
LiesOnLine number start end (Ok None) = ⊤
LiesOnLine number start end (Ok (Some one)) =
    IsOnLine number start end one.at (record { line = one.line; col = one.head })
    × IsOnLine number start end one.body.from (record { line = one.line; col = one.col })
    × (one.body.to ≤ end)
LiesOnLine number start end (Err fault) = IsOnLine number start end fault.at fault.place

-- what is told of a line whose bytes these are stands on it
abbrev pub LiesOn : LineAt → List ℕ → Result (Option Directive) CheckFault → Type 0
LiesOn place line read = LiesOnLine place.number place.start (place.start + length line) read

-- a fault at an offset of a line stands on it, wherever behind the offset it ends
abbrev pub FaultLies : LineAt → ℕ → CheckFault → Type 0
FaultLies place at fault =
    (end : ℕ) → place.start + at ≤ end → LiesOnLine place.number place.start end (Err fault)

-- a mistake lies in a line in which a directive's prefix, its colon and its body do
abbrev pub MistakeLies : Head → ℕ → Option (ℕ × LineFault) → Type 0
MistakeLies head from found =
    (end : ℕ) → head.at ≤ end → head.behind ≤ end → from ≤ end → IfSome found (λ mistake. mistake.0 ≤ end)

-- what is told lies on a line on which both the directive and its mistake do
abbrev pub LiesAsBoth : LineAt → Option (ℕ × LineFault) → Directive → Result (Option Directive) CheckFault → Type 0
LiesAsBoth place found one told = (end : ℕ) → LiesOnLine place.number place.start end (Ok (Some one))
    → IfSome found (λ mistake. place.start + mistake.0 ≤ end) → LiesOnLine place.number place.start end told

-- a directive has one of so many prefixes
abbrev pub LiesAmong : ℕ → Result (Option Directive) CheckFault → Type 0
LiesAmong count (Ok None) = ⊤
LiesAmong count (Ok (Some one)) = one.prefix < count
LiesAmong count (Err fault) = ⊤

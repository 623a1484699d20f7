-- The directives of a check file, or its first refusal.
-- After LLVM Command Guide, FileCheck: directives count in the order of their lines, and --allow-unused-prefixes.
-- Own rules: the first line that is refused refuses the file, and so do, behind all lines, a file without a directive, and one
-- of several check prefixes that no directive has.
use Rattle.std.specs.Prelude.{◌≡◌, ◌⊎◌, ◌<◌, ◌≤◌, ⊤, ◌++◌, ℕ, zero, suc, ◌+◌, ◌-◌, ◌==◌, nat_lt, Bool, true, false, ◌&&◌, ◌||◌, not, if◌then◌else◌, List, [], ◌∷◌, take, drop, length, slice_index, All, AllPairs, Contains, Option, None, Some, Result, Ok, Err, IfOk, MatchResult}
use Rattle.std.specs.List.{list_any, slice_split}
use Rattle.tt_base.specs.Place.{is_newline, line_end, place_at}
use Rattle.check_lines.specs.Kind.{is_earlier}
use Rattle.check_lines.specs.Line.{fault_at, read_line}
use Rattle.check_lines.specs.declared.checks.FileRules.{FileRules}
use Rattle.check_lines.specs.declared.directive.Directive.{Directive}
use Rattle.check_lines.specs.declared.fault.CheckFail.{CheckFail}
use Rattle.check_lines.specs.declared.fault.CheckFail.TheVariants.{Bad, NoMemory}
use Rattle.check_lines.specs.declared.fault.CheckFault.{CheckFault}
use Rattle.check_lines.specs.declared.fault.CheckKind.{CheckKind}
use Rattle.check_lines.specs.declared.fault.CheckKind.TheVariants.{NoChecks, UnusedPrefix}
use Rattle.check_lines.specs.declared.line.Rules.{Rules}

-- a line begins at an offset: at the front of the text, or behind a newline
pub record BeginsLine (text : List ℕ) (start : ℕ) : Type 0 where
  pub within : start ≤ length text
  pub behind : 0 < start → is_newline (slice_index text (start - 1)) ≡ true

-- whether one of the directives counts as an earlier match of what begins at an offset
abbrev pub earlier_at : List Directive → ℕ → Bool
earlier_at directives start = list_any (λ one. is_earlier one.kind && nat_lt one.at start) directives

-- a line's reading before that of the lines behind it
abbrev pub join_reading : Result (Option Directive) CheckFault → Result (List Directive) CheckFault
    → Result (List Directive) CheckFault
join_reading (Err fault) later = Err fault
join_reading (Ok None) later = later
join_reading (Ok (Some one)) (Ok later) = Ok (one ∷ later)
join_reading (Ok (Some one)) (Err fault) = Err fault

-- whether a match comes before what is behind a line
abbrev pub earlier_behind : Bool → Result (Option Directive) CheckFault → Bool
earlier_behind earlier (Err fault) = earlier
earlier_behind earlier (Ok None) = earlier
earlier_behind earlier (Ok (Some one)) = earlier || is_earlier one.kind

module _ (checks comments : List (List ℕ)) (keep : Bool) where
  -- ---- as a reader of a check file takes it

  -- what the line that begins at an offset holds, behind a match or not
  abbrev pub line_at : List ℕ → Bool → ℕ → Result (Option Directive) CheckFault
  line_at text earlier start =
      read_line checks comments keep earlier (place_at text start).line start
      (take (line_end text start - start) (drop start text))

  -- the line that begins at an offset holds a directive, among these
  abbrev pub HoldsAt : List ℕ → List Directive → ℕ → Directive → Type 0
  HoldsAt text directives start one =
      BeginsLine text start × (line_at text (earlier_at directives start) start ≡ Ok (Some one))

  -- the line that begins at an offset is refused
  abbrev pub RefusedAt : List ℕ → List Directive → ℕ → CheckFault → Type 0
  RefusedAt text directives start fault =
      BeginsLine text start × (line_at text (earlier_at directives start) start ≡ Err fault)

  -- the lines that begin before an offset hold these directives: each is held by such a line, each such line that holds one
  -- has it here, they come in the order of the text, and no such line is refused
  pub record HoldBefore (text : List ℕ) (end : ℕ) (directives : List Directive) : Type 0 where
    pub held : All (λ one. (start : ℕ) × (start < end) × HoldsAt text directives start one) directives
    pub whole : (start : ℕ) (one : Directive) → start < end → HoldsAt text directives start one → Contains directives one
    pub ordered : AllPairs (λ one later. one.at < later.at) directives
    pub accepted : (start : ℕ) (fault : CheckFault) → start < end → ¬ RefusedAt text directives start fault

  -- all lines of the text hold these directives
  abbrev pub AreDirectives : List ℕ → List Directive → Type 0
  AreDirectives text directives = HoldBefore text (length text + 1) directives

  -- the line that begins at an offset is refused, behind lines that aren't and hold these directives
  pub record IsFirstRefusal (text : List ℕ) (fault : CheckFault) : Type 0 where
    pub start : ℕ
    pub before : List Directive
    pub hold : HoldBefore text start before
    pub refused : RefusedAt text before start fault

  -- ---- the same as a value

  -- the directives of lines, of which the first has this number and begins here, behind a match or not
  unfoldable pub read_lines_from : Bool → ℕ → ℕ → List (List ℕ) → Result (List Directive) CheckFault
  read_lines_from earlier number start [] = Ok []
  read_lines_from earlier number start (line ∷ lines) =
      join_reading (read_line checks comments keep earlier number start line)
      (read_lines_from (earlier_behind earlier (read_line checks comments keep earlier number start line))
      (number + 1) (start + length line + 1) lines)

  -- what all lines of a text hold
  abbrev pub read_lines : List ℕ → Result (List Directive) CheckFault
  read_lines text = read_lines_from false 1 0 (slice_split is_newline text)

-- ---- behind all lines

-- whether one of the directives has the check prefix of a number
abbrev pub is_used : List Directive → ℕ → Bool
is_used directives index = list_any (λ one. one.prefix == index) directives

-- the first check prefix from a number on that no directive has, of those that are left
abbrev pub unused_from : List Directive → ℕ → ℕ → Option ℕ
unused_from directives index zero = None
unused_from directives index (suc left) =
    if is_used directives index then unused_from directives (index + 1) left else Some index

-- the check prefix that is refused: one of several that no directive has, unless such are allowed
abbrev pub unused_prefix : Bool → ℕ → List Directive → Option ℕ
unused_prefix allow count directives =
    if allow || not (nat_lt 1 count) then None else unused_from directives 0 count

-- a fault of the whole file
abbrev pub whole_fault : CheckKind → CheckFault
whole_fault kind = fault_at 1 0 0 kind

abbrev pub unless_unused : Option ℕ → List Directive → Result (List Directive) CheckFault
unless_unused None directives = Ok directives
unless_unused (Some index) directives = Err (whole_fault (UnusedPrefix index))

-- directives that are some, unless they may lack, and use each prefix
abbrev pub complete : Bool → Bool → ℕ → List Directive → Result (List Directive) CheckFault
complete allow may_lack count directives =
    if length directives == 0 && not may_lack then Err (whole_fault NoChecks)
    else unless_unused (unused_prefix allow count directives) directives

abbrev pub completed : Bool → Bool → ℕ → Result (List Directive) CheckFault → Result (List Directive) CheckFault
completed allow may_lack count (Err fault) = Err fault
completed allow may_lack count (Ok directives) = complete allow may_lack count directives

-- the directives of a text in line order, or its first refusal
abbrev pub read_checks : List (List ℕ) → List (List ℕ) → Bool → Bool → Bool → List ℕ → Result (List Directive) CheckFault
read_checks checks comments allow keep may_lack text =
    completed allow may_lack (length checks) (read_lines checks comments keep text)

-- a text is refused by its first refused line, or because of the directives that its lines hold
abbrev pub IsDueRefusal : List (List ℕ) → List (List ℕ) → Bool → Bool → Bool → List ℕ → CheckFail → Type 0
IsDueRefusal checks comments allow keep may_lack text (Bad fault) =
    IsFirstRefusal checks comments keep text fault
    ⊎ ((directives : List Directive) × AreDirectives checks comments keep text directives
    × (complete allow may_lack (length checks) directives ≡ Err fault))
IsDueRefusal checks comments allow keep may_lack text NoMemory = ⊤

-- a text is refused by its first refused line
abbrev pub FailIsFirst : List (List ℕ) → List (List ℕ) → Bool → List ℕ → CheckFail → Type 0
FailIsFirst checks comments keep text (Bad fault) = IsFirstRefusal checks comments keep text fault
FailIsFirst checks comments keep text NoMemory = ⊤

-- a refusal that is told of the whole file
abbrev pub FailIsWhole : CheckFail → Type 0
FailIsWhole (Bad fault) = (fault.at ≡ 0) × (fault.place ≡ record { line = 1; col = 1 })
FailIsWhole NoMemory = ⊤

-- ---- what is told of places and prefixes

-- the line and the columns that a directive tells are those of its offsets, its body lies in the text, and its prefix is one
-- of so many
pub record IsPlaced (text : List ℕ) (count : ℕ) (one : Directive) : Type 0 where
  pub head : record { line = one.line; col = one.head } ≡ place_at text one.at
  pub body : record { line = one.line; col = one.col } ≡ place_at text one.body.from
  pub within : one.body.to ≤ length text
  pub prefix : one.prefix < count

-- the place that a refusal tells is that of its offset
abbrev pub FailIsPlaced : List ℕ → CheckFail → Type 0
FailIsPlaced text (Bad fault) = (fault.place ≡ place_at text fault.at) × (fault.at ≤ length text)
FailIsPlaced text NoMemory = ⊤

-- what a reading tells, directives or a refusal, stands where it says
abbrev pub AllIsPlaced : List ℕ → ℕ → Result (List Directive) CheckFail → Type 0
AllIsPlaced text count result = MatchResult result (All (IsPlaced text count)) (FailIsPlaced text)

-- what a refusal says of a reading: it is the reading's fault, or memory was wanting
abbrev pub IsRefusalOf : {T : Type 0} → Result T CheckFault → CheckFail → Type 0
IsRefusalOf reading (Bad fault) = reading ≡ Err fault
IsRefusalOf reading NoMemory = ⊤

-- the new list is the old one with what a line holds, and a flag says whether that counts as an earlier match
abbrev pub AddsLine : List Directive → List Directive → Bool → Result (Option Directive) CheckFault → Type 0
AddsLine old new found (Ok None) = (new ≡ old) × (found ≡ false)
AddsLine old new found (Ok (Some one)) = (new ≡ old ++ one ∷ []) × (found ≡ is_earlier one.kind)
AddsLine old new found (Err fault) = ⊥

-- what a line holds was added, unless its reading failed
abbrev pub LineAdded : {E : Type 0} → Result Bool E → List Directive → List Directive → Result (Option Directive) CheckFault → Type 0
LineAdded result old new read = IfOk result (λ found. AddsLine old new found read)

-- ---- the same by the code's rules

abbrev pub LinesHold : Rules → List ℕ → List Directive → Type 0
LinesHold rules text directives =
    AreDirectives rules.prefixes.checks.prefixes.now rules.prefixes.comments.prefixes.now rules.keep_blanks text directives

abbrev pub IsFirstBy : Rules → List ℕ → CheckFail → Type 0
IsFirstBy rules text fail =
    FailIsFirst rules.prefixes.checks.prefixes.now rules.prefixes.comments.prefixes.now rules.keep_blanks text fail

-- what all lines hold, or the first refusal
abbrev pub AreLines : Rules → List ℕ → Result (List Directive) CheckFail → Type 0
AreLines rules text result = MatchResult result (LinesHold rules text) (IsFirstBy rules text)

abbrev pub lines_by : Rules → List ℕ → Result (List Directive) CheckFault
lines_by rules text =
    read_lines rules.prefixes.checks.prefixes.now rules.prefixes.comments.prefixes.now rules.keep_blanks text

abbrev pub HoldBy : FileRules → List ℕ → List Directive → Type 0
HoldBy rules text directives = AreDirectives rules.checks.now rules.comments.now rules.keep_blanks text directives

abbrev pub IsDueBy : FileRules → List ℕ → CheckFail → Type 0
IsDueBy rules text fail =
    IsDueRefusal rules.checks.now rules.comments.now rules.allow_unused rules.keep_blanks rules.may_lack text fail

abbrev pub checks_by : FileRules → List ℕ → Result (List Directive) CheckFault
checks_by rules text =
    read_checks rules.checks.now rules.comments.now rules.allow_unused rules.keep_blanks rules.may_lack text

-- a result is that of a reading, unless memory was wanting
abbrev pub Answers : Result (List Directive) CheckFault → Result (List Directive) CheckFail → Type 0
Answers reading (Ok directives) = reading ≡ Ok directives
Answers reading (Err fail) = IsRefusalOf reading fail

-- the same where directives are complete as they are
abbrev pub Completes : Result (List Directive) CheckFault → List Directive → Result (List Directive) CheckFail → Type 0
Completes reading directives (Ok same) = (same ≡ directives) × (reading ≡ Ok directives)
Completes reading directives (Err fail) = IsRefusalOf reading fail

-- The script of a test: what its lines say together, or the first fault.
-- After LLVM Command Guide, lit, and LLVM Testing Infrastructure Guide: a `\` at a RUN line's end joins the next one, lists
-- of REQUIRES, UNSUPPORTED and XFAIL add up, and ALLOW_RETRIES. Own rules: at most 1,000 RUN lines, directives are UTF-8,
-- one ALLOW_RETRIES of at most 100, the first line that is refused counts, then a RUN line without its next, then no RUN.
use Rattle.std.specs.Prelude.{◌≡◌, ℕ, ◌+◌, ◌-◌, ◌*◌, fold, Bool, true, false, ◌==◌, ◌&&◌, ◌||◌, not, nat_le, List, [], ◌∷◌, ◌++◌, length, take, slice_index, map, Option, Some, None, Result, Ok, Err, if◌then◌else◌}
use Rattle.std.specs.List.{list_all, slice_split}
use Rattle.std.proofs.lemmas.Map.Entries.{option_filter}
use Rattle.opt_words.specs.Number.{decimal}
use Rattle.std.specs.Str.{is_utf8}
use Rattle.tt_base.specs.Place.{is_newline}
use Rattle.ere_tree.specs.Class.{is_digit}
use Rattle.bool_exprs.specs.Expr.{Expr}
use Rattle.bool_exprs.specs.Place.{exprs_in}
use Rattle.bool_exprs.specs.View.{exprs_of}
use Rattle.bool_exprs.specs.declared.expr.BoolExpr.{BoolExpr}
use Rattle.lit_directives.specs.Line.{Said, nothing, stop, directive, read_line, front_kept, trimmed, without_return}
use Rattle.lit_directives.specs.declared.keyword.Kind.{Kind}
use Rattle.lit_directives.specs.declared.keyword.Kind.TheVariants.{Run, Requires, Unsupported, Xfail, Retries}
use Rattle.lit_directives.specs.declared.fault.ScriptFault.{ScriptFault}
use Rattle.lit_directives.specs.declared.fault.ScriptFault.TheVariants.{BadExpr, TooMany, NotText, BadRetries, TwiceRetries, Unfinished, NoRun}
use Rattle.lit_directives.specs.declared.fault.ScriptFail.{ScriptFail}
use Rattle.lit_directives.specs.declared.fault.ScriptFail.TheVariants.{Bad, NoMemory}
use Rattle.lit_directives.specs.declared.fault.TheConstants.{MAX_RUNS, MAX_RETRIES}
use Rattle.lit_directives.specs.declared.script.RunLine.{RunLine}
use Rattle.lit_directives.specs.declared.script.Script as scripts
use Rattle.lit_directives.specs.declared.runs.Pending as pendings
use Rattle.lit_directives.specs.declared.reader.Reader as readers

-- what was read of a script: its RUN lines and how many RUN directives there were, the RUN line that goes on, with the
-- line of its last part, the lists, and the number of retries
pub record State : Type 0 where
  pub runs : List RunLine
  pub count : ℕ
  pub pending : Option (RunLine × ℕ)
  pub required : List Expr
  pub unsupported : List Expr
  pub xfail : List Expr
  pub retries : Option ℕ

abbrev pub beginning : State
beginning = record {
  runs = [];
  count = 0;
  pending = None;
  required = [];
  unsupported = [];
  xfail = [];
  retries = None;
}

-- ---- RUN lines

-- a RUN line of which nothing was read, or the one that goes on
abbrev pub begun : ℕ → Option (RunLine × ℕ) → RunLine
begun line None = record { line = line; text = [] }
begun line (Some pending) = pending.0

-- the text of a part: a first one without blanks at its ends, a later one with those at its front
abbrev pub part_text : Option (RunLine × ℕ) → List ℕ → List ℕ
part_text None rest = trimmed rest
part_text (Some pending) rest = front_kept rest

abbrev pub goes_on : List ℕ → Bool
goes_on text = slice_index text (length text - 1) == 92

-- a RUN line and a part of it more
abbrev pub with_text : RunLine → List ℕ → RunLine
with_text run text = record run { text = run.text ++ text }

-- behind a part of a RUN line: whether it goes on, and then the line of the part
abbrev pub with_part : Bool → State → ℕ → RunLine → List ℕ → State
with_part true s line run text =
    record s { count = s.count + 1; pending = Some (with_text run (take (length text - 1) text), line) }
with_part false s line run text =
    record s { runs = s.runs ++ with_text run text ∷ []; count = s.count + 1; pending = None }

abbrev pub with_run : State → ℕ → List ℕ → Result State ScriptFault
with_run s line rest =
    if nat_le MAX_RUNS s.count then Err (TooMany line)
    else Ok (with_part (goes_on (part_text s.pending rest)) s line (begun line s.pending) (part_text s.pending rest))

-- ---- the others

-- the number of retries: decimal digits with blanks round them, and at most 100
abbrev pub retries_of : List ℕ → Option ℕ
retries_of rest = option_filter (λ number. nat_le number MAX_RETRIES) (decimal (trimmed rest))

abbrev pub with_retries : State → ℕ → Option ℕ → Option ℕ → Result State ScriptFault
with_retries s line (Some earlier) number = Err (TwiceRetries line)
with_retries s line None None = Err (BadRetries line)
with_retries s line None (Some number) = Ok (record s { retries = Some number })

-- a list's items, or the fault of its line
abbrev pub with_list : ℕ → Option (List Expr) → (List Expr → State) → Result State ScriptFault
with_list line None put = Err (BadExpr line)
with_list line (Some these) put = Ok (put these)

-- behind a directive, with what is behind its keyword
abbrev pub by_kind : State → ℕ → Kind → List ℕ → Result State ScriptFault
by_kind s line Run rest = with_run s line rest
by_kind s line Requires rest =
    with_list line (exprs_in false rest) (λ these. record s { required = s.required ++ these })
by_kind s line Unsupported rest =
    with_list line (exprs_in false rest) (λ these. record s { unsupported = s.unsupported ++ these })
by_kind s line Xfail rest = with_list line (exprs_in true rest) (λ these. record s { xfail = s.xfail ++ these })
by_kind s line Retries rest = with_retries s line s.retries (retries_of rest)

-- behind a directive of a line that is UTF-8 or not
abbrev pub by_directive : State → ℕ → Bool → Kind → List ℕ → Result State ScriptFault
by_directive s line false kind rest = Err (NotText line)
by_directive s line true kind rest = by_kind s line kind rest

-- ---- all lines

-- the lines of a text from one with this number on, as directives: their line's number, whether it is UTF-8, their
-- keyword, and what is behind it
pub record Directive : Type 0 where
  pub line : ℕ
  pub is_text : Bool
  pub kind : Kind
  pub rest : List ℕ

-- the directives that a line adds before those of the lines behind it
abbrev pub onto_later : ℕ → List ℕ → Said → List Directive → List Directive
onto_later number line nothing later = later
onto_later number line stop later = []
onto_later number line (directive kind rest) later =
    record { line = number; is_text = is_utf8 line; kind = kind; rest = rest } ∷ later

-- the directives of lines, of which the first has this number
unfoldable pub directives_from : ℕ → List (List ℕ) → List Directive
directives_from number [] = []
directives_from number (line ∷ lines) =
    onto_later number (without_return line) (read_line (without_return line)) (directives_from (number + 1) lines)

-- the directives of a text, up to its `END.`
abbrev pub directives_of : List ℕ → List Directive
directives_of text = directives_from 1 (slice_split is_newline text)

abbrev pub and_then : Result State ScriptFault → (State → Result State ScriptFault) → Result State ScriptFault
and_then (Err fault) go = Err fault
and_then (Ok s) go = go s

-- behind these directives, or the first fault
unfoldable pub after_all : State → List Directive → Result State ScriptFault
after_all s [] = Ok s
after_all s (one ∷ more) =
    and_then (by_directive s one.line one.is_text one.kind one.rest) (λ there. after_all there more)

-- ---- the whole script

-- a script as plain data
pub record Whole : Type 0 where
  pub runs : List RunLine
  pub required : List Expr
  pub unsupported : List Expr
  pub xfail : List Expr
  pub retries : ℕ

abbrev pub number_or_none : Option ℕ → ℕ
number_or_none None = 0
number_or_none (Some number) = number

abbrev pub whole_of : State → Whole
whole_of s = record {
  runs = s.runs;
  required = s.required;
  unsupported = s.unsupported;
  xfail = s.xfail;
  retries = number_or_none s.retries;
}

-- the script at the end of its directives: no RUN line goes on, and there is one
abbrev pub finished : Option (RunLine × ℕ) → State → Result Whole ScriptFault
finished (Some pending) s = Err (Unfinished pending.1)
finished None s = if length s.runs == 0 then Err NoRun else Ok (whole_of s)

abbrev pub ended : Result State ScriptFault → Result Whole ScriptFault
ended (Err fault) = Err fault
ended (Ok s) = finished s.pending s

-- the script of a text, or its fault
abbrev pub script_of : List ℕ → Result Whole ScriptFault
script_of text = ended (after_all beginning (directives_of text))

-- ---- the code's values

abbrev pub script_view : scripts.Script → Whole
script_view script = record {
  runs = script.runs;
  required = exprs_of script.required;
  unsupported = exprs_of script.unsupported;
  xfail = exprs_of script.xfail;
  retries = script.retries;
}

-- a RUN line that goes on, and the line of its last part
abbrev pub pending_view : Option pendings.Pending → Option (RunLine × ℕ)
pending_view None = None
pending_view (Some pending) = Some (pending.run, pending.last)

abbrev pub reader_view : readers.Reader → State
reader_view reader = record {
  runs = reader.runs;
  count = reader.count;
  pending = pending_view reader.pending;
  required = exprs_of reader.required;
  unsupported = exprs_of reader.unsupported;
  xfail = exprs_of reader.xfail;
  retries = reader.retries;
}

-- a part of a RUN line on this line was added to these, and leaves this pending
abbrev pub AddsText : Bool → List RunLine → ℕ → RunLine → List ℕ → List RunLine → Option (RunLine × ℕ) → Type 0
AddsText true old line run text new next =
    (new ≡ old) × (next ≡ Some (with_text run (take (length text - 1) text), line))
AddsText false old line run text new next = (new ≡ old ++ with_text run text ∷ []) × (next ≡ None)

abbrev pub AddsPart : List RunLine → ℕ → Option (RunLine × ℕ) → List ℕ → List RunLine → Option (RunLine × ℕ) → Type 0
AddsPart old line pending rest new next =
    AddsText (goes_on (part_text pending rest)) old line (begun line pending) (part_text pending rest) new next

-- the items of a line's list were added to these, unless memory ran out
abbrev pub AddsList : List BoolExpr → Bool → ℕ → List ℕ → List BoolExpr → Result (Unit {0}) ScriptFail → Type 0
AddsList old xfail line rest new (Ok done) =
    (these : List Expr) × (exprs_in xfail rest ≡ Some these) × (exprs_of new ≡ exprs_of old ++ these)
AddsList old xfail line rest new (Err NoMemory) = Unit {0}
AddsList old xfail line rest new (Err (Bad fault)) = (exprs_in xfail rest ≡ None) × (fault ≡ BadExpr line)

-- what a reader answered is this state or this fault, unless memory ran out
abbrev pub IsState : Result readers.Reader ScriptFail → Result State ScriptFault → Type 0
IsState (Ok reader) read = read ≡ Ok (reader_view reader)
IsState (Err NoMemory) read = Unit {0}
IsState (Err (Bad fault)) read = read ≡ Err fault

-- what the whole call answered is this script or this fault, unless memory ran out
abbrev pub IsScript : Result scripts.Script ScriptFail → Result Whole ScriptFault → Type 0
IsScript (Ok script) read = read ≡ Ok (script_view script)
IsScript (Err NoMemory) read = Unit {0}
IsScript (Err (Bad fault)) read = read ≡ Err fault

-- behind a line from which the reading goes on or not
abbrev pub going : Bool → State → List Directive → Result State ScriptFault
going true s later = after_all s later
going false s later = Ok s

-- what was read behind a line stands for it, whatever comes later
abbrev pub LeadsOn : State → ℕ → List ℕ → Result (readers.Reader × Bool) ScriptFail → Type 0
LeadsOn s number line (Ok next) = (later : List Directive)
    → after_all s (onto_later number line (read_line line) later) ≡ going next.1 (reader_view next.0) later
LeadsOn s number line (Err NoMemory) = Unit {0}
LeadsOn s number line (Err (Bad fault)) = (later : List Directive)
    → after_all s (onto_later number line (read_line line) later) ≡ Err fault

-- What decides a line of a check file.
-- After LLVM Command Guide, FileCheck: a directive is a prefix, a suffix and a colon anywhere on a line, and a comment prefix
-- with its colon hides the rest of its line. Own rules: no letter, digit, `-` or `_` stands before a prefix, of the
-- prefixes of both kinds that stand at a place the longest is meant, and the least place that decides counts.
use Rattle.std.specs.Prelude.{◌≡◌, ℕ, zero, suc, ◌+◌, ◌<◌, ◌≤◌, length, ◌==◌, nat_lt, Bool, false, ◌||◌, if◌then◌else◌, List, [], ◌∷◌, drop, slice_index, Option, None, Some, codes}
use Rattle.std.specs.Option.{option_or, option_map}
use Rattle.tt_base.specs.Occurrence.{begins_with}
use Rattle.check_lines.specs.Class.{is_digit, is_letter}
use Rattle.prefix_tree.specs.Prefix.{meant}
use Rattle.check_lines.specs.Suffix.{suffix}
use Rattle.check_lines.specs.declared.decision.Decision.{Decision}
use Rattle.check_lines.specs.declared.decision.LineMark.{LineMark}
use Rattle.check_lines.specs.declared.decision.LineMark.TheVariants.{Comment, Check}
use Rattle.check_lines.specs.declared.decision.Prefixes.{Prefixes}
use Rattle.prefix_tree.specs.declared.standing.Standing.{Standing}
use Rattle.check_lines.specs.declared.suffix.Spelling.{Spelling}
use Rattle.check_lines.specs.declared.suffix.Spelling.TheVariants.{Good, Bad}

-- whether a byte is a letter, a digit, `-` or `_`
abbrev pub is_word : ℕ → Bool
is_word byte = is_letter byte || is_digit byte || byte == 45 || byte == 95

-- ---- the mark at the front of a text

-- a comment prefix counts with its colon
abbrev pub comment_mark : List ℕ → Option LineMark
comment_mark rest = if begins_with rest (codes ":") then Some Comment else None

-- a check prefix counts with what is spelled behind it
abbrev pub check_mark : Standing → Option Spelling → Option LineMark
check_mark prefix None = None
check_mark prefix (Some spelling) = Some (Check prefix spelling)

-- of a check prefix and a comment prefix that stand the longer one counts
abbrev pub mark_of : Option Standing → Option Standing → List ℕ → Option LineMark
mark_of None None text = None
mark_of None (Some comment) text = comment_mark (drop comment.length text)
mark_of (Some check) None text = check_mark check (suffix (drop check.length text))
mark_of (Some check) (Some comment) text =
    if nat_lt check.length comment.length then comment_mark (drop comment.length text)
    else check_mark check (suffix (drop check.length text))

-- the mark that stands at the front of a text, if one does, by the check prefixes and the comment prefixes
abbrev pub mark_at : List (List ℕ) → List (List ℕ) → List ℕ → Option LineMark
mark_at checks comments text = mark_of (meant checks text) (meant comments text) text

-- ---- as a reader of a check file takes it

-- whether the byte before an offset belongs to a word
abbrev pub is_behind_word : List ℕ → ℕ → Bool
is_behind_word line zero = false
is_behind_word line (suc before) = is_word (slice_index line before)

module _ (checks comments : List (List ℕ)) where
  -- a mark stands at an offset of the line, and no word is before it
  pub record Decides (line : List ℕ) (at : ℕ) (mark : LineMark) : Type 0 where
    pub within : at < length line
    pub apart : is_behind_word line at ≡ false
    pub stands : mark_at checks comments (drop at line) ≡ Some mark

  -- no mark before an offset decides
  abbrev pub NoneDecidesBefore : List ℕ → ℕ → Type 0
  NoneDecidesBefore line end = (at : ℕ) (mark : LineMark) → at < end → ¬ Decides line at mark

  -- what decides a line stands at the least offset at which a mark does
  abbrev pub IsDecision : List ℕ → Option Decision → Type 0
  IsDecision line None = NoneDecidesBefore line (length line)
  IsDecision line (Some found) = Decides line found.at found.mark × NoneDecidesBefore line found.at

  -- ---- the same as a value

  -- the mark at an offset, where no word is before it
  abbrev pub decided_at : Bool → ℕ → List ℕ → Option Decision
  decided_at behind_word at text =
      if behind_word then None else option_map (λ mark. record { at = at; mark = mark }) (mark_at checks comments text)

  -- the least offset that decides, in the rest of a line that begins at an offset, behind a word or not
  unfoldable pub decide_from : Bool → ℕ → List ℕ → Option Decision
  decide_from behind_word at [] = None
  decide_from behind_word at (byte ∷ rest) =
      option_or (decided_at behind_word at (byte ∷ rest)) (decide_from (is_word byte) (at + 1) rest)

  -- what decides a line
  abbrev pub decide : List ℕ → Option Decision
  decide line = decide_from false 0 line

-- ---- the same by the code's prefixes

abbrev pub IsDecisionBy : Prefixes → List ℕ → Option Decision → Type 0
IsDecisionBy prefixes line found = IsDecision prefixes.checks.prefixes.now prefixes.comments.prefixes.now line found

abbrev pub decide_by : Prefixes → List ℕ → Option Decision
decide_by prefixes line = decide prefixes.checks.prefixes.now prefixes.comments.prefixes.now line

abbrev pub decided_by : Prefixes → Bool → ℕ → List ℕ → Option Decision
decided_by prefixes behind_word at text =
    decided_at prefixes.checks.prefixes.now prefixes.comments.prefixes.now behind_word at text

abbrev pub mark_by : Prefixes → List ℕ → Option LineMark
mark_by prefixes text = mark_at prefixes.checks.prefixes.now prefixes.comments.prefixes.now text

-- how many check prefixes there are
abbrev pub check_count : Prefixes → ℕ
check_count prefixes = length prefixes.checks.prefixes.now

-- a mark lies in a text behind an offset: its prefix and its suffix have no more bytes than are left, and its prefix is one of
-- so many
abbrev pub MarkLies : ℕ → List ℕ → ℕ → LineMark → Type 0
MarkLies count text at Comment = at < length text
MarkLies count text at (Check prefix (Good spelled)) =
    (at < length text) × (at + prefix.length + spelled.count ≤ length text) × (prefix.index < count)
MarkLies count text at (Check prefix (Bad kind)) =
    (at < length text) × (at + prefix.length ≤ length text) × (prefix.index < count)

-- what decides a line lies in it
abbrev pub DecisionLiesIn : ℕ → List ℕ → Decision → Type 0
DecisionLiesIn count line found = MarkLies count line found.at found.mark

-- what decides at an offset lies in the text from there on
abbrev pub DecisionLies : ℕ → List ℕ → ℕ → Decision → Type 0
DecisionLies count text at found = (found.at ≡ at) × MarkLies count text 0 found.mark

-- The keyword of a line of a test's script.
-- After LLVM Command Guide, lit, and LLVM Testing Infrastructure Guide: a keyword stands anywhere on a line. Own rules: no
-- letter, digit, `-` or `_` stands before it, and the least place on a line counts.
use Rattle.std.specs.Prelude.{◌≡◌, codes, ℕ, zero, suc, ◌+◌, ◌<◌, Bool, false, ◌==◌, ◌||◌, List, [], ◌∷◌, length, drop, slice_index, Option, Some, None, if◌then◌else◌}
use Rattle.std.specs.List.{find}
use Rattle.std.specs.Option.{option_map, option_or}
use Rattle.tt_base.specs.Occurrence.{begins_with}
use Rattle.ere_tree.specs.Class.{is_alnum}
use Rattle.lit_directives.specs.declared.keyword.Keyword.{Keyword}
use Rattle.lit_directives.specs.declared.keyword.Keyword.TheVariants.{Of, End}
use Rattle.lit_directives.specs.declared.keyword.Kind.TheVariants.{Run, Requires, Unsupported, Xfail, Retries}
use Rattle.lit_directives.specs.declared.keyword.Mark.{Mark}

-- a keyword as it is written
abbrev pub spelling : Keyword → List ℕ
spelling (Of Run) = codes "RUN:"
spelling (Of Requires) = codes "REQUIRES:"
spelling (Of Unsupported) = codes "UNSUPPORTED:"
spelling (Of Xfail) = codes "XFAIL:"
spelling (Of Retries) = codes "ALLOW_RETRIES:"
spelling End = codes "END."

-- how many bytes it has
abbrev pub width : Keyword → ℕ
width keyword = length (spelling keyword)

abbrev pub keywords : List Keyword
keywords = Of Run ∷ Of Requires ∷ Of Unsupported ∷ Of Xfail ∷ Of Retries ∷ End ∷ []

-- the keyword at the front of a text
abbrev pub keyword_of : List ℕ → Option Keyword
keyword_of text = find (λ keyword. begins_with text (spelling keyword)) keywords

-- whether a byte is a letter, a digit, `-` or `_`
abbrev pub is_word : ℕ → Bool
is_word byte = is_alnum byte || byte == 45 || byte == 95

-- ---- as a reader of a test takes it

-- whether the byte before an offset belongs to a word
abbrev pub is_behind_word : List ℕ → ℕ → Bool
is_behind_word line zero = false
is_behind_word line (suc before) = is_word (slice_index line before)

-- a keyword stands at an offset of the line, and no word is before it
pub record Stands (line : List ℕ) (at : ℕ) (keyword : Keyword) : Type 0 where
  pub within : at < length line
  pub apart : is_behind_word line at ≡ false
  pub begins : keyword_of (drop at line) ≡ Some keyword

-- no keyword stands before an offset
abbrev pub NoneStandsBefore : List ℕ → ℕ → Type 0
NoneStandsBefore line end = (at : ℕ) (keyword : Keyword) → at < end → ¬ Stands line at keyword

-- the mark of a line is the keyword at the least offset at which one stands
abbrev pub IsMark : List ℕ → Option Mark → Type 0
IsMark line None = NoneStandsBefore line (length line)
IsMark line (Some mark) = Stands line mark.at mark.keyword × NoneStandsBefore line mark.at

-- ---- the same as a value

-- the mark at an offset, where no word is before it
abbrev pub mark_at : Bool → ℕ → List ℕ → Option Mark
mark_at behind_word at text =
    if behind_word then None else option_map (λ keyword. record { at = at; keyword = keyword }) (keyword_of text)

-- the mark at the least offset, in the rest of a line that begins at an offset, behind a word or not
unfoldable pub mark_from : Bool → ℕ → List ℕ → Option Mark
mark_from behind_word at [] = None
mark_from behind_word at (byte ∷ rest) =
    option_or (mark_at behind_word at (byte ∷ rest)) (mark_from (is_word byte) (at + 1) rest)

-- the mark of a line
abbrev pub mark_of : List ℕ → Option Mark
mark_of line = mark_from false 0 line

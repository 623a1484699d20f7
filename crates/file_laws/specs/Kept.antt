-- What a refreshed check file keeps of the old one.
-- Own rule: each line that holds no directive, good or faulty, by the default prefixes. It is kept with a newline, so it is decided in the
-- canonical form that it has before one.
use Rattle.std.specs.Prelude.{ℕ, Bool, true, false, List, [], ◌∷◌, ◌++◌, if◌then◌else◌, Option, None, Some}
use Rattle.std.specs.List.{slice_split}
use Rattle.tt_base.specs.Place.{is_newline}
use Rattle.check_lines.specs.Decision.{decide}
use Rattle.check_lines.specs.declared.decision.Decision.{Decision}
use Rattle.check_lines.specs.declared.decision.LineMark.{LineMark}
use Rattle.check_lines.specs.declared.decision.LineMark.TheVariants.{Comment, Check}
use Rattle.lead_laws.specs.Canon.{form_of}
use Rattle.lead_laws.specs.Marks as default

-- whether a mark is that of a comment
abbrev pub is_comment : LineMark → Bool
is_comment Comment = true
is_comment (Check prefix spelling) = false

-- whether nothing decides a line, or a comment does
abbrev pub decides_none : Option Decision → Bool
decides_none None = true
decides_none (Some found) = is_comment found.mark

-- a line with its newline
abbrev pub with_newline : List ℕ → List ℕ
with_newline line = line ++ 10 ∷ []

-- a last line, which is none where it is empty
abbrev pub last_of : List ℕ → List (List ℕ)
last_of [] = []
last_of (byte ∷ line) = (byte ∷ line) ∷ []

-- lines without the empty one behind a last newline
abbrev pub ended : List (List ℕ) → List (List ℕ)
ended [] = []
ended (line ∷ []) = last_of line
ended (line ∷ next ∷ lines) = line ∷ ended (next ∷ lines)

module _ (checks comments : List (List ℕ)) where
  -- whether a line holds no directive
  abbrev pub is_free : List ℕ → Bool
  is_free line = decides_none (decide checks comments line)

  -- what is kept of a line with this canonical form
  abbrev pub kept_line : List ℕ → List ℕ → List ℕ
  kept_line line form = if is_free form then with_newline line else []

  -- what is kept of lines with these canonical forms
  abbrev pub kept_of : List (List ℕ) → List (List ℕ) → List ℕ
  kept_of [] forms = []
  kept_of (line ∷ lines) [] = []
  kept_of (line ∷ lines) (form ∷ forms) = kept_line line form ++ kept_of lines forms

  -- what is kept of a text with this canonical form
  abbrev pub free_text : List ℕ → List ℕ → List ℕ
  free_text old form = kept_of (ended (slice_split is_newline old)) (slice_split is_newline form)

-- what is kept of a check file
abbrev pub kept : List ℕ → List ℕ
kept old = free_text default.checks default.comments old (form_of old)

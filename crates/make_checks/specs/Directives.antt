-- The directives of an output, one by one.
-- Own form: those of `file_laws`, from some place on.
use Rattle.std.specs.Prelude.{◌≡◌, ℕ, ◌-◌, ◌≤◌, List, [], ◌∷◌, ◌++◌, codes, length, map, Option, None, Some, SomeIff}
use Rattle.std.specs.List.{flat_map, slice_split}
use Rattle.tt_base.specs.Place.{is_newline}
use Rattle.file_laws.specs.Made.{directives_of, made_line, next_of}
use Rattle.quote_laws.specs.Quote.{body_of}
use Rattle.make_checks.specs.Made.{asking, lines_in}
use Rattle.make_checks.specs.declared.directives.Directive.{Directive}
use Rattle.make_checks.specs.declared.directives.Directive.TheVariants.{Plain, Asks}
use Rattle.make_checks.specs.declared.directives.Left.{Left}
use Rattle.make_checks.specs.declared.directives.Left.TheVariants.{Front, First, Further, Last, Done}

-- a directive as it is written
abbrev pub directive_text : Directive → List ℕ
directive_text (Plain words) = words.now
directive_text (Asks words line) = words.now ++ body_of line.now

-- and on a line of its own, behind the lead
abbrev pub line_text : List ℕ → Directive → List ℕ
line_text lead directive = made_line lead (directive_text directive)

-- nothing but newlines behind the last line
abbrev pub last_not : List ℕ
last_not = codes "CHECK-NOT: {{.}}"

-- those that are left
abbrev pub directives_left : Left → List (List ℕ)
directives_left (Front lines) = directives_of (lines_in lines.now)
directives_left (First lines) = asking (slice_split is_newline lines.now) ++ last_not ∷ []
directives_left (Further lines) = map next_of (slice_split is_newline lines.now) ++ last_not ∷ []
directives_left Last = last_not ∷ []
directives_left Done = []

-- the first of these directives, and what is left behind it
abbrev pub IsParted : List (List ℕ) → Option (Directive × Left) → Type 0
IsParted all None = all ≡ []
IsParted all (Some parts) = all ≡ directive_text parts.0 ∷ directives_left parts.1

-- those that are left, each on a line behind the lead
abbrev pub text_left : List ℕ → Left → List ℕ
text_left lead left = flat_map (made_line lead) (directives_left left)

-- the room that a text leaves, if there is enough for it
abbrev pub LeavesRoom : List ℕ → ℕ → Option ℕ → Type 0
LeavesRoom text room rest = SomeIff rest (length text ≤ room) (room - length text)

-- What the directives of a made check file ask for, and that a check file is read as such.
-- Own rule: the directives are told by what they ask for, so that what they are read as is said once for all.
use Rattle.std.specs.Prelude.{◌≡◌, codes, ℕ, ◌-◌, false, List, [], ◌∷◌, ◌++◌, map, take, drop, Ok}
use Rattle.check_lines.specs.Canonical.{canon}
use Rattle.check_lines.specs.Checks.{read_checks}
use Rattle.check_lines.specs.declared.directive.Directive.{Directive}
use Rattle.check_lines.specs.declared.kind.Kind.{Kind}
use Rattle.check_lines.specs.declared.kind.Kind.TheVariants.{Plain, Next, Empty, Not}
use Rattle.lead_laws.specs.Marks.{checks, comments}
use Rattle.quote_laws.specs.Quote.{body_of}
use Rattle.file_laws.specs.Lead.{is_bad}
use Rattle.file_laws.specs.Made.{canonical_lines, made_file}

-- nothing in front of the first line, the first one, a further one, an empty one, and nothing but newlines behind the last
pub data Ask : Type 0 where
  start : Ask
  first : List ℕ → Ask
  next : List ℕ → Ask
  empty : Ask
  end : Ask

abbrev pub kind_of : Ask → Kind
kind_of start = Not
kind_of (first line) = Plain
kind_of (next line) = Next
kind_of empty = Empty
kind_of end = Not

-- the bytes of its body
abbrev pub body_in : Ask → List ℕ
body_in start = codes "{{.|[[:space:]]}}"
body_in (first line) = body_of line
body_in (next line) = body_of line
body_in empty = []
body_in end = codes "{{.}}"

-- what stands before them
abbrev pub mark_of : Ask → List ℕ
mark_of start = codes "CHECK-NOT: "
mark_of (first line) = codes "CHECK: "
mark_of (next line) = codes "CHECK-NEXT: "
mark_of empty = codes "CHECK-EMPTY:"
mark_of end = codes "CHECK-NOT: "

-- what asks for a line behind another, and what asks for lines
abbrev pub next_ask : List ℕ → Ask
next_ask [] = empty
next_ask (byte ∷ line) = next (byte ∷ line)

abbrev pub asks_of : List (List ℕ) → List Ask
asks_of [] = end ∷ []
asks_of (line ∷ lines) = start ∷ first line ∷ (map next_ask lines ++ end ∷ [])

-- ---- read directives

-- a directive of a text asks for this
pub record IsOf (text : List ℕ) (ask : Ask) (one : Directive) : Type 0 where
  pub kind : one.kind ≡ kind_of ask
  pub literal : one.literal ≡ false
  pub body : take (one.body.to - one.body.from) (drop one.body.from text) ≡ body_in ask

abbrev pub AreOf : List ℕ → List Ask → List Directive → Type 0
AreOf text [] [] = Unit {0}
AreOf text [] (one ∷ directives) = ⊥
AreOf text (ask ∷ asks) [] = ⊥
AreOf text (ask ∷ asks) (one ∷ directives) = IsOf text ask one × AreOf text asks directives

-- a check file is read, by default options, as the directives that ask for these
pub record IsReadAs (file : List ℕ) (asks : List Ask) : Type 0 where
  pub directives : List Directive
  pub read : read_checks checks comments false false false (canon false file) ≡ Ok directives
  pub are : AreOf (canon false file) asks directives

-- Law: a check file that is made is read as what asks for the lines of its output, whatever is kept of an old one.
abbrev pub MadeFilesAreRead : Type 0
MadeFilesAreRead =
    (old output lead : List ℕ) → is_bad lead ≡ false → IsReadAs (made_file old output lead) (asks_of (canonical_lines output))

-- Directives that are made from lines, and what they accept.
use Rattle.std.specs.Prelude.{◌≡◌, ◌≢◌, ◌↔◌, ℕ, false, List, [], ◌∷◌}
use Rattle.ere_tree.specs.Tree.{alt, line_start}
use Rattle.line_laws.specs.Left.{AreBytes, alternatives, dot}
use Rattle.line_laws.specs.Lines.{IsTextOf, lines_of}
use Rattle.quote_laws.specs.Quote.{items_of, parts_of}
use Rattle.pattern_parse.specs.Item.{Item, regex}
use Rattle.pattern_parse.specs.PieceView.{items_view}
use Rattle.pattern_parse.specs.declared.pattern.Frame.TheVariants.{Open}
use Rattle.check_group.specs.Changes.{Variables}
use Rattle.check_group.specs.Lines.{IsEmptyLine, empty_line}
use Rattle.check_group.specs.declared.directive.Check.{Check}
use Rattle.pattern_parse.specs.declared.demand.Demand.{Demand}
use Rattle.pattern_parse.specs.declared.demand.LineRule.{LineRule}
use Rattle.pattern_parse.specs.declared.demand.LineRule.TheVariants.{Any, Empty, Next}
use Rattle.pattern_parse.specs.declared.demand.Role.{Role}
use Rattle.pattern_parse.specs.declared.demand.Role.TheVariants.{Excluded, Sought}
use Rattle.check_scan.specs.Verdict.{scan}

-- what a directive asks for that is to have one match, in a role and on a line
abbrev pub asks : Role → LineRule → Demand
asks role rule = record { role = role; rule = rule; times = 1 }

-- a directive has these pieces, by default options
pub record HasPieces (check : Check) (items : List Item) : Type 0 where
  pub fold : check.pattern.fold ≡ false
  pub frame : check.pattern.frame ≡ Open
  pub pieces : items_view check.pattern.pieces ≡ items

-- its pattern is a line
abbrev pub IsOfLine : List ℕ → Check → Type 0
IsOfLine line check = HasPieces check (regex line_start ∷ items_of (parts_of line))

-- the NOT of any byte, and the one of any but a newline
abbrev pub IsStart : Check → Type 0
IsStart check = (check.demand ≡ asks Excluded Any) × HasPieces check (regex (alt alternatives) ∷ [])

abbrev pub IsEnd : Check → Type 0
IsEnd check = (check.demand ≡ asks Excluded Any) × HasPieces check (regex dot ∷ [])

abbrev pub IsFirst : List ℕ → Check → Type 0
IsFirst line check = (check.demand ≡ asks Sought Any) × IsOfLine line check

abbrev pub IsNext : List ℕ → Check → Type 0
IsNext [] check = check.demand ≡ asks Sought Empty
IsNext (b ∷ line) check = (check.demand ≡ asks Sought Next) × IsOfLine (b ∷ line) check

-- the directives of the lines behind the first one, and the last NOT
abbrev pub AreNext : List (List ℕ) → List Check → Type 0
AreNext [] [] = ⊥
AreNext [] (check ∷ checks) = IsEnd check × (checks ≡ [])
AreNext (line ∷ lines) [] = ⊥
AreNext (line ∷ lines) (check ∷ checks) = IsNext line check × AreNext lines checks

abbrev pub AreMade : List (List ℕ) → List Check → Type 0
AreMade [] checks = (end : Check) × IsEnd end × (checks ≡ end ∷ [])
AreMade (line ∷ lines) checks =
    (start : Check) × (first : Check) × (others : List Check) × IsStart start × IsFirst line first × AreNext lines others
    × (checks ≡ start ∷ first ∷ others)

-- a line holds no newline
abbrev pub IsLine : List ℕ → Type 0
IsLine [] = Unit {0}
IsLine (b ∷ line) = (b ≢ 10) × IsLine line

abbrev pub AreLines : List (List ℕ) → Type 0
AreLines [] = Unit {0}
AreLines (line ∷ lines) = IsLine line × AreLines lines

-- Law: the value of an EMPTY's search is the least newline behind which a line is empty.
abbrev pub EmptyLinesAreLeast : Type 0
EmptyLinesAreLeast = (text : List ℕ) (from : ℕ) → IsEmptyLine text from (empty_line text from)

-- Law: directives that are made from lines have no fault exactly on the texts of these lines
abbrev pub MadeChecksAreExact : Type 0
MadeChecksAreExact =
    (lines : List (List ℕ)) (checks : List Check) (text : List ℕ) (vars : Variables)
    → AreLines lines → AreMade lines checks → AreBytes text
    → ((scan checks [] false text vars).faults ≡ []) ↔ IsTextOf lines text

-- Law: directives that are made from an output's lines have no fault exactly on the texts whose lines that count are the same
abbrev pub MadeChecksTellLines : Type 0
MadeChecksTellLines =
    (output other : List ℕ) (checks : List Check) (vars : Variables)
    → AreMade (lines_of output) checks → AreBytes other
    → ((scan checks [] false other vars).faults ≡ []) ↔ (lines_of other ≡ lines_of output)

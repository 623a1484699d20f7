-- What the directives of a made check file compile to.
-- Shown: each body is read, in one way, as the pieces of what it asks for, so that what bodies compile to is what made directives are.
-- The hard one is `such`, where what a body is read as is tied to the one reading of its bytes.
use Rattle.std.proofs.Common.{◌≡◌, codes, ℕ, ◌+◌, nat_lt, Bool, true, false, if◌then◌else◌, List, [], ◌∷◌, ◌++◌, map, length, Option, Result, Ok, refl, sym, ap, ◌∙◌, subst, MatchBool}
use Rattle.std.specs.FinMap.{get}
use Rattle.check_group.specs.declared.directive.Check.{Check}
use Rattle.check_lines.specs.Kind.{demand_of}
use Rattle.check_lines.specs.declared.directive.Directive.{Directive}
use Rattle.check_program.specs.Compiled.{AreChecks, Formats, IsCheck, IsRead, body_of, formats_behind, rules_of}
use Rattle.ere_tree.specs.Tree.{alt, line_start}
use Rattle.exact_laws.specs.Exact.{default_opts}
use Rattle.file_laws.specs.Asks.{AreOf, Ask, IsOf, asks_of, body_in, empty, end, first, kind_of, next, next_ask, start}
use Rattle.line_laws.specs.Left.{alternatives, dot}
use Rattle.made_laws.specs.Made.{AreMade, AreNext, HasPieces}
use Rattle.num_base.specs.declared.format.Format.{Format}
use Rattle.pattern_parse.proofs.PieceLemmas.{pieces_are_one}
use Rattle.pattern_parse.specs.Cut.{Ending, IsCut, Raw, over}
use Rattle.pattern_parse.specs.Cut as cut
use Rattle.pattern_parse.specs.Item.{Item, plain, refused, regex}
use Rattle.pattern_parse.specs.PieceView.{items_view}
use Rattle.pattern_parse.specs.Pieces.{IsPieces, items_from, nothing_said}
use Rattle.pattern_parse.specs.declared.demand.Demand.{Demand}
use Rattle.pattern_parse.specs.declared.fault.PatFault.{PatFault}
use Rattle.pattern_parse.specs.declared.fault.PatKind.TheVariants.{TooLong}
use Rattle.pattern_parse.specs.declared.pattern.BodyRules.{BodyRules}
use Rattle.pattern_parse.specs.declared.pattern.Frame.TheVariants.{Open}
use Rattle.quote_laws.proofs.BodyLemmas.{bodies_are_cut, bodies_are_read, nots_are_read}
use Rattle.quote_laws.specs.Quote.{items_of, parts_of, raws_of}
use Rattle.quote_laws.specs.Quote as quoted

-- ---- the pieces of bodies

abbrev pub pieces_for : Ask → List Item
pieces_for start = regex (alt alternatives) ∷ []
pieces_for (first line) = regex line_start ∷ items_of (parts_of line)
pieces_for (next line) = regex line_start ∷ items_of (parts_of line)
pieces_for empty = plain [] ∷ []
pieces_for end = regex dot ∷ []

abbrev pub IsShort : Ask → Type 0
IsShort ask = nat_lt 65536 (length (body_in ask)) ≡ false

abbrev pub AreShort : List Ask → Type 0
AreShort [] = Unit {0}
AreShort (ask ∷ asks) = IsShort ask × AreShort asks

-- how a body is read that is no literal
abbrev rules : Demand → Bool → BodyRules
rules demand literal = record { demand = demand; literal = literal; fold = false; frame = Open }

abbrev Known : Type 0
Known = List ℕ → Option Format

-- a body is cut, and what it is cut into is read as this
abbrev IsCutAs : List ℕ → Known → Result (List Item) PatFault → Type 0
IsCutAs body known told =
    (raws : List Raw) × (ending : Ending) × IsCut body raws ending × (told ≡ items_from false known false nothing_said 0 raws ending)

unless_long : (body : List ℕ) (known : Known) (told : Result (List Item) PatFault) → nat_lt 65536 (length body) ≡ false → IsCutAs body known told
    → MatchBool (nat_lt 65536 (length body)) (told ≡ refused TooLong 0) (IsCutAs body known told)
unless_long body known told short is =
    subst (λ long. MatchBool long (told ≡ refused TooLong 0) (IsCutAs body known told)) (sym short) is

line_cut : (line : List ℕ) (known : Known) → IsCutAs (quoted.body_of line) known (Ok (regex line_start ∷ items_of (parts_of line)))
line_cut line known = (cut.regex (codes "^") ∷ raws_of (parts_of line), over, bodies_are_cut line, sym (bodies_are_read known line))

pieces_are : (ask : Ask) (known : Known) → IsShort ask → IsPieces (body_in ask) (rules (demand_of (kind_of ask)) false) known (Ok (pieces_for ask))
pieces_are start known short =
    (cut.regex (codes ".|[[:space:]]") ∷ [], over, nots_are_read.start.0, sym (nots_are_read.start.1 known))
pieces_are (first line) known short = unless_long (quoted.body_of line) known (Ok (pieces_for (first line))) short (line_cut line known)
pieces_are (next line) known short = unless_long (quoted.body_of line) known (Ok (pieces_for (next line))) short (line_cut line known)
pieces_are empty known short = refl
pieces_are end known short = (cut.regex (codes ".") ∷ [], over, nots_are_read.end.0, sym (nots_are_read.end.1 known))

-- ---- directives

-- the body of a directive that asks for this is read as its pieces
pub body_read : (text : List ℕ) (ask : Ask) (one : Directive) → IsOf text ask one → IsShort ask → (known : Formats)
    → IsRead default_opts known (body_of text one) (Ok (pieces_for ask))
body_read text ask one is short known =
    subst (λ bytes. IsPieces bytes (rules (demand_of one.kind) one.literal) (get known) (Ok (pieces_for ask))) (sym is.body)
    (subst (λ kind. IsPieces (body_in ask) (rules (demand_of kind) one.literal) (get known) (Ok (pieces_for ask))) (sym is.kind)
    (subst (λ literal. IsPieces (body_in ask) (rules (demand_of (kind_of ask)) literal) (get known) (Ok (pieces_for ask))) (sym is.literal)
    (pieces_are ask (get known) short)))

-- a compiled directive asks for this
abbrev IsSuch : Ask → Check → Type 0
IsSuch ask check = (check.demand ≡ demand_of (kind_of ask)) × HasPieces check (pieces_for ask)

abbrev AreSuch : List Ask → List Check → Type 0
AreSuch [] [] = Unit {0}
AreSuch [] (check ∷ checks) = ⊥
AreSuch (ask ∷ asks) [] = ⊥
AreSuch (ask ∷ asks) (check ∷ checks) = IsSuch ask check × AreSuch asks checks

always_open : (excluded : Bool) → (if excluded then Open else Open) ≡ Open
always_open true = refl
always_open false = refl

such : (text : List ℕ) (ask : Ask) (one : Directive) (number : ℕ) (known : Formats) (check : Check) → IsOf text ask one → IsShort ask
    → IsCheck default_opts number known (body_of text one) check → IsSuch ask check
such text ask one number known check of short is =
    let same = pieces_are_one (body_of text one).bytes (rules_of default_opts (body_of text one)) (get known)
    (Ok (items_view check.pattern.pieces)) (Ok (pieces_for ask)) is.read (body_read text ask one of short known) in (
      is.demand ∙ ap demand_of of.kind,
      record { fold = is.fold; frame = is.frame ∙ always_open _; pieces = cc },
    )

all_such : (text : List ℕ) (asks : List Ask) (directives : List Directive) (number : ℕ) (old later : Formats) (checks : List Check)
    → AreOf text asks directives → AreShort asks → AreChecks default_opts number old (map (body_of text) directives) checks later
    → AreSuch asks checks
all_such text [] [] number old later [] of short are = tt
all_such text [] [] number old later (check ∷ checks) of short are = absurd are
all_such text [] (one ∷ directives) number old later checks of short are = absurd of
all_such text (ask ∷ asks) [] number old later checks of short are = absurd of
all_such text (ask ∷ asks) (one ∷ directives) number old later [] of short are = absurd are
all_such text (ask ∷ asks) (one ∷ directives) number old later (check ∷ checks) of short are = (
  such text ask one number old check of.0 short.0 are.0,
  all_such text asks directives (number + 1) (formats_behind old check) later checks of.1 short.1 are.1,
)

-- ---- made directives

nexts_made : (lines : List (List ℕ)) (checks : List Check) → AreSuch (map next_ask lines ++ end ∷ []) checks → AreNext lines checks
nexts_made [] [] are = absurd are
nexts_made [] (check ∷ []) are = (are.0, refl)
nexts_made [] (check ∷ other ∷ checks) are = absurd are.1
nexts_made (line ∷ lines) [] are = absurd are
nexts_made ([] ∷ lines) (check ∷ checks) are = (are.0.0, nexts_made lines checks are.1)
nexts_made ((b ∷ line) ∷ lines) (check ∷ checks) are = (are.0, nexts_made lines checks are.1)

asks_made : (lines : List (List ℕ)) (checks : List Check) → AreSuch (asks_of lines) checks → AreMade lines checks
asks_made [] [] are = absurd are
asks_made [] (check ∷ []) are = (check, are.0, refl)
asks_made [] (check ∷ other ∷ checks) are = absurd are.1
asks_made (line ∷ lines) [] are = absurd are
asks_made (line ∷ lines) (check ∷ []) are = absurd are.1
asks_made (line ∷ lines) (check ∷ other ∷ checks) are = (check, other, checks, are.0, are.1.0, nexts_made lines checks are.1.1, refl)

-- what the bodies of a made check file compile to
pub compiled_made : (text : List ℕ) (lines : List (List ℕ)) (directives : List Directive) (old later : Formats) (checks : List Check)
    → AreOf text (asks_of lines) directives → AreShort (asks_of lines)
    → AreChecks default_opts 0 old (map (body_of text) directives) checks later → AreMade lines checks
compiled_made text lines directives old later checks of short are =
    asks_made lines checks (all_such text (asks_of lines) directives 0 old later checks of short are)

-- The pieces of a body, or its first refusal, from its cut.
-- After LLVM Command Guide, FileCheck. Own rules: at most nine definitions of a body are meant by recalls; a body has
-- at most 65,536 bytes; a label has no block.
use Rattle.std.specs.Prelude.{◌≡◌, ℕ, ◌+◌, Bool, ◌||◌, nat_lt, List, [], ◌∷◌, length, Option, Some, None, Result, Ok, Err, if◌then◌else◌}
use Rattle.std.specs.Bool.{MatchBool}
use Rattle.std.specs.FinMap.{FinMap, empty, insert}
use Rattle.ere_tree.specs.Grammar as ere
use Rattle.ere_tree.specs.Tree.{Tree}
use Rattle.ere_tree.specs.declared.fault.EreFault.{EreFault}
use Rattle.num_base.specs.Names.{name_cmp}
use Rattle.num_base.specs.declared.format.Format.{Format}
use Rattle.pattern_parse.specs.Block.{Said, and_said, block_read}
use Rattle.pattern_parse.specs.Cut.{Raw, Ending, over, no_regex_end, no_block_end, IsCut}
use Rattle.pattern_parse.specs.Cut as cut
use Rattle.pattern_parse.specs.Demand.{is_excluded, is_label, takes_none}
use Rattle.pattern_parse.specs.Item.{Item, plain, regex, number, refused}
use Rattle.pattern_parse.specs.declared.fault.PatFault.{PatFault}
use Rattle.pattern_parse.specs.declared.fault.PatKind.TheVariants.{BadRegex, NoRegexEnd, NoBlockEnd, VariableInLabel, TooLong, TooManyReferences}
use Rattle.pattern_parse.specs.declared.pattern.BodyRules.{BodyRules}
use Rattle.pattern_parse.specs.declared.pattern.Frame.{Frame}
use Rattle.pattern_parse.specs.declared.pattern.Frame.TheVariants.{Open}
use Rattle.pattern_parse.specs.declared.pattern.Pattern.{Pattern}

-- where nothing was said
abbrev pub nothing_said : Said
nothing_said = record { texts = empty; references = 0; defined = empty; used = empty }

-- a piece and those behind it
abbrev pub and_items : Item → Result (List Item) PatFault → Result (List Item) PatFault
and_items item (Ok items) = Ok (item ∷ items)
and_items item (Err fault) = Err fault

abbrev pub regex_read : ℕ → Result Tree EreFault → Result Item PatFault
regex_read at (Ok tree) = Ok (regex tree)
regex_read at (Err fault) = refused (BadRegex fault) (at + fault.at)

-- one piece at an offset, where the pieces before it said so much
abbrev pub raw_read : Bool → (List ℕ → Option Format) → Bool → Said → ℕ → Raw → Result (Item × Said) PatFault
raw_read fold known label said at (cut.text bytes) = Ok (plain bytes, said)
raw_read fold known label said at (cut.regex bytes) = and_said said (regex_read (at + 2) (ere.reading fold bytes))
raw_read fold known label said at (cut.block bytes) =
    if label then refused VariableInLabel at else block_read fold known said (at + 2) bytes

-- the offset behind a piece
abbrev pub behind_raw : ℕ → Raw → ℕ
behind_raw at (cut.text bytes) = at + length bytes
behind_raw at (cut.regex bytes) = at + length bytes + 4
behind_raw at (cut.block bytes) = at + length bytes + 4

-- these items and those behind them
abbrev pub behind_items : List Item → Result (List Item) PatFault → Result (List Item) PatFault
behind_items [] told = told
behind_items (item ∷ items) told = and_items item (behind_items items told)

-- why a body that ends so at an offset is refused, where so many definitions are meant
abbrev pub ended : Bool → ℕ → ℕ → Ending → Option PatFault
ended label references at over =
    if nat_lt 9 references then Some (record { at = 0; kind = TooManyReferences }) else None
ended label references at no_regex_end = Some (record { at = at; kind = NoRegexEnd })
ended label references at no_block_end =
    Some (record { at = at; kind = if label then VariableInLabel else NoBlockEnd })

abbrev pub unless_refused : Option PatFault → Result (List Item) PatFault
unless_refused None = Ok []
unless_refused (Some fault) = Err fault

abbrev pub items_behind : Result (Item × Said) PatFault → (Said → Result (List Item) PatFault)
    → Result (List Item) PatFault
items_behind (Ok found) go = and_items found.0 (go found.1)
items_behind (Err fault) go = Err fault

-- the pieces from an offset on, where the pieces before it said so much
abbrev pub items_from : Bool → (List ℕ → Option Format) → Bool → Said → ℕ → List Raw → Ending
    → Result (List Item) PatFault
items_from fold known label said at [] ending = unless_refused (ended label said.references at ending)
items_from fold known label said at (raw ∷ raws) ending =
    items_behind (raw_read fold known label said at raw)
    (λ next. items_from fold known label next (behind_raw at raw) raws ending)

-- whether a body is plain text as a whole
abbrev pub is_plain : BodyRules → Bool
is_plain rules = rules.literal || takes_none rules.demand.rule

-- A body that is read by these rules has these pieces, or this first refusal.
abbrev pub IsPieces : List ℕ → BodyRules → (List ℕ → Option Format) → Result (List Item) PatFault → Type 0
IsPieces body rules known told =
    MatchBool (nat_lt 65536 (length body)) (told ≡ refused TooLong 0)
    (MatchBool (is_plain rules) (told ≡ Ok (plain body ∷ []))
    ((raws : List Raw) × (ending : Ending) × IsCut body raws ending
    × (told ≡ items_from rules.fold known (is_label rules.demand.role) nothing_said 0 raws ending)))

-- the frame of the pattern
abbrev pub frame_of : BodyRules → Frame
frame_of rules = if is_excluded rules.demand.role || takes_none rules.demand.rule then Open else rules.frame

-- a pattern has the frame and the case of its rules
abbrev pub IsFramed : BodyRules → Pattern → Type 0
IsFramed rules pattern = (pattern.frame ≡ frame_of rules) × (pattern.fold ≡ rules.fold)

-- the formats with those of the numbers that the pieces define, in order
abbrev pub with_format : FinMap name_cmp Format → Item → FinMap name_cmp Format
with_format known (number num format) = elim (num.defines) [ None ↦ known | Some name ↦ insert known name format ]
with_format known item = known

abbrev pub with_formats : FinMap name_cmp Format → List Item → FinMap name_cmp Format
with_formats known [] = known
with_formats known (item ∷ items) = with_formats (with_format known item) items

-- Law: a body has at most one list of pieces, or one refusal.
abbrev pub PiecesAreOne : Type 0
PiecesAreOne =
    (body : List ℕ) (rules : BodyRules) (known : List ℕ → Option Format)
    (told other : Result (List Item) PatFault)
    → IsPieces body rules known told → IsPieces body rules known other → told ≡ other

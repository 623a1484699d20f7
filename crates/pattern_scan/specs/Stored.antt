-- The text that a pattern stands for where its pieces are all plain or stored text, or numbers that have a value. After
-- LLVM Command Guide, FileCheck, 'FileCheck String Substitution Blocks' and 'FileCheck Numeric Substitution Blocks'. Own
-- rule: such a pattern is sought as these bytes.
use Rattle.std.specs.Prelude.{◌≡◌, ℕ, ℤ, ◌++◌, Bool, true, false, IfSome, Option, Some, None, List, [], ◌∷◌, Result, Ok, Err}
use Rattle.std.specs.FinMap.{FinMap}
use Rattle.num_base.specs.Eval.{value_of}
use Rattle.num_base.specs.Names.{name_cmp}
use Rattle.num_base.specs.Term.{Term}
use Rattle.num_base.specs.declared.evaluation.EvalFault.{EvalFault}
use Rattle.num_base.specs.declared.format.Format.{Format}
use Rattle.num_exprs.specs.Block.{Num}
use Rattle.num_spell.specs.Spelling.{prints}
use Rattle.pattern_instance.specs.Known.{Known, known_of}
use Rattle.pattern_parse.specs.Item.{Item, plain, regex, define, recall, number}
use Rattle.pattern_parse.specs.PieceView.{items_view}
use Rattle.pattern_parse.specs.declared.pattern.Frame.TheVariants.{Open}
use Rattle.pattern_parse.specs.declared.pattern.Pattern.{Pattern}
use Rattle.pattern_vars.specs.declared.vars.Held.{Held}

-- the printed bytes of a value, if it is one that the format prints
abbrev pub printed : Format → Result ℤ EvalFault → Option (List ℕ)
printed format (Ok value) = prints format value
printed format (Err fault) = None

-- the bytes of a number that defines no name
abbrev pub number_text : Known → Option (List ℕ) → Format → Option Term → Option (List ℕ)
number_text known (Some name) format t = None
number_text known None format None = None
number_text known None format (Some t) = printed format (value_of known.number known.at t)

abbrev pub block_text : Known → Num → Format → Option (List ℕ)
block_text known num format = number_text known num.defines format num.expr

abbrev pub IsBlockText : Known → Num → Format → Option (List ℕ) → Type 0
IsBlockText known num format told = told ≡ block_text known num format

-- the bytes of a piece that is text
abbrev pub piece_text : Known → Item → Option (List ℕ)
piece_text known (plain bytes) = Some bytes
piece_text known (regex t) = None
piece_text known (define name t) = None
piece_text known (recall name) = known.text name
piece_text known (number num format) = block_text known num format

-- these bytes were added
abbrev pub AddsRun : Option (List ℕ) → List ℕ → List ℕ → Type 0
AddsRun told old new = (run : List ℕ) × (told ≡ Some run) × (new ≡ old ++ run)

abbrev pub AddsText : Known → Item → List ℕ → List ℕ → Bool → Type 0
AddsText known one old new told = told ≡ true → AddsRun (piece_text known one) old new

-- pieces are texts one behind the other, which are these bytes
abbrev pub AreText : Known → List Item → List ℕ → Type 0
AreText known [] bytes = bytes ≡ []
AreText known (one ∷ items) bytes =
    (run rest : List ℕ) × (piece_text known one ≡ Some run) × AreText known items rest × (bytes ≡ run ++ rest)

-- the same, where they are told
abbrev pub MayBeText : Known → List Item → Option (List ℕ) → Type 0
MayBeText known items told = IfSome told (AreText known items)

-- what variables tell a directive of a line whose letters match in one case
abbrev pub known_at : FinMap name_cmp Held → ℕ → Known
known_at vars line = known_of vars line false

-- the pattern of a directive of a line stands for these bytes as they are
pub record IsStored (pattern : Pattern) (vars : FinMap name_cmp Held) (line : ℕ) (bytes : List ℕ) : Type 0 where
  pub fold : pattern.fold ≡ false
  pub frame : pattern.frame ≡ Open
  pub pieces : AreText (known_at vars line) (items_view pattern.pieces) bytes

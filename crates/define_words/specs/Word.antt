-- What a word of the command line defines: `X=text` a text, `#N=3` a number.
--   number = "#" [ "%" fmt "," ] name "=" sum
-- After LLVM Command Guide, FileCheck, '-D<VAR=VALUE>' and '-D#<FMT>,<NUMVAR>=<NUMERIC EXPRESSION>'. Own rules: format, name and
-- sum are read as those of a numeric block, of which the `=` is the `:`; the word has no other `=` and, since it stands on no
-- line, no `@LINE`.
use Rattle.std.specs.Prelude.{ℕ, ◌+◌, Bool, ◌||◌, ◌==◌, not, List, ◌∷◌, ◌++◌, take, drop, Option, Some, None, Result, Ok, Err, if◌then◌else◌}
use Rattle.std.specs.FinMap.{FinMap, insert}
use Rattle.std.specs.List.{list_all, position_from}
use Rattle.ere_tree.specs.Front.{begins}
use Rattle.num_base.specs.Names.{name_cmp}
use Rattle.num_base.specs.Term.{Term}
use Rattle.num_base.specs.declared.format.Format.{Format}
use Rattle.num_exprs.specs.Block.{Reading, reading}
use Rattle.num_exprs.specs.Name.{name_at}
use Rattle.num_exprs.specs.declared.block.PlacedName.{PlacedName}
use Rattle.num_exprs.specs.declared.fault.NumFault.{NumFault}
use Rattle.define_words.specs.Format.{word_format}

-- a text under a name; the number of an expression under a name, with its format; or neither
pub data Word : Type 0 where
  text : List ℕ → List ℕ → Word
  number : List ℕ → Format → Term → Word
  bad : Word

-- ---- texts

-- a name of this length, a `=`, and a text
abbrev pub text_behind : ℕ → List ℕ → Word
text_behind long value =
    if begins 61 (drop long value) then text (take long value) (drop (long + 1) value) else bad

abbrev pub text_word : List ℕ → Word
text_word value = elim (name_at value) [ Ok long ↦ text_behind long value | Err at ↦ bad ]

-- ---- numbers

-- whether a byte can stand behind the `=`: it is no `=` and no `@`, with which a line begins
abbrev pub is_inside : ℕ → Bool
is_inside byte = not (byte == 61 || byte == 64)

-- the block of a definition, with a `:` for its `=`, if it has one
abbrev pub block_of : List ℕ → List ℕ → Option (List ℕ)
block_of head tail = if list_all is_inside tail then Some (head ++ 58 ∷ tail) else None

abbrev pub block_at : Option ℕ → List ℕ → Option (List ℕ)
block_at None definition = None
block_at (Some at) definition = block_of (take at definition) (drop (at + 1) definition)

abbrev pub block_in : List ℕ → Option (List ℕ)
block_in definition = block_at (position_from (λ byte. byte == 61) 0 definition) definition

-- the number of an expression under a name, if it has a format
abbrev pub in_format : List ℕ → Term → Option Format → Word
in_format name term None = bad
in_format name term (Some format) = number name format term

-- what is said where a name, an expression and a format were found
abbrev pub said_by : Option PlacedName → Result (Option Term) NumFault → Option Format → Word
said_by (Some named) (Ok (Some term)) format = in_format named.name term format
said_by (Some named) (Ok None) format = bad
said_by (Some named) (Err fault) format = bad
said_by None expr format = bad

abbrev pub said_in : (List ℕ → Option Format) → Reading → Word
said_in known read = said_by read.defines read.expr (word_format known read.format read.uses)

-- what a definition says where these formats are known
abbrev pub number_in : (List ℕ → Option Format) → Option (List ℕ) → Word
number_in known None = bad
number_in known (Some block) = said_in known (reading block)

abbrev pub number_word : (List ℕ → Option Format) → List ℕ → Word
number_word known definition = number_in known (block_in definition)

-- what a value says where these formats are known
abbrev pub word_of : (List ℕ → Option Format) → List ℕ → Word
word_of known value = if begins 35 value then number_word known (drop 1 value) else text_word value

-- the formats that are known behind a word
abbrev pub known_with : FinMap name_cmp Format → Word → FinMap name_cmp Format
known_with known (number name format term) = insert known name format
known_with known (text name bytes) = known
known_with known bad = known

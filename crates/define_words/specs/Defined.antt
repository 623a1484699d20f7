-- What the values of -D define, in the order of the words.
-- After LLVM Command Guide, FileCheck, '-D<VAR=VALUE>' and '-D#<FMT>,<NUMVAR>=<NUMERIC EXPRESSION>'. Own rules: an
-- expression may use the numbers before it, also that of its own name; the first value that defines nothing is refused, and what is known of
-- formats doesn't end there.
use Rattle.std.specs.Prelude.{ℕ, ℤ, List, [], ◌∷◌, Option, Some, None, Result, Ok, Err, if◌then◌else◌}
use Rattle.std.specs.FinMap.{FinMap, empty, get, insert}
use Rattle.num_base.specs.Eval.{value_of}
use Rattle.num_base.specs.Names.{name_cmp}
use Rattle.num_base.specs.declared.evaluation.EvalFault.{EvalFault}
use Rattle.num_base.specs.declared.format.Format.{Format}
use Rattle.num_spell.specs.Spelling.{can_print}
use Rattle.pattern_vars.specs.declared.binding.Binding.{Binding}
use Rattle.pattern_vars.specs.declared.binding.Binding.TheVariants.{Text, Number}
use Rattle.define_words.specs.Word.{Word, text, number, bad, known_with, word_of}
use Rattle.define_words.specs.declared.defined.Defined.{Defined}

-- ---- formats

-- the values with what they say: a number has its format by the words before it
unfoldable pub words_of : FinMap name_cmp Format → List (List ℕ) → List (List ℕ × Word)
words_of known [] = []
words_of known (value ∷ values) =
    (value, word_of (get known) value) ∷ words_of (known_with known (word_of (get known) value)) values

-- the formats that are known behind all words
unfoldable pub known_by : FinMap name_cmp Format → List (List ℕ × Word) → FinMap name_cmp Format
known_by known [] = known
known_by known (word ∷ words) = known_by (known_with known word.1) words

-- ---- bindings

-- the binding of a number that its format can print
abbrev pub printable : List ℕ → Format → Result ℤ EvalFault → Option Binding
printable name format (Err fault) = None
printable name format (Ok value) = if can_print format value then Some (Number name value) else None

-- what a word binds where numbers have these values, if it binds something
abbrev pub binding_of : (List ℕ → Option ℤ) → Word → Option Binding
binding_of numbers (text name bytes) = Some (Text name bytes)
binding_of numbers (number name format term) = printable name format (value_of numbers 0 term)
binding_of numbers bad = None

-- the values of numbers with a binding
abbrev pub numbers_with : FinMap name_cmp ℤ → Binding → FinMap name_cmp ℤ
numbers_with numbers (Number name value) = insert numbers name value
numbers_with numbers (Text name bytes) = numbers

-- a binding and those behind it
abbrev pub and_bindings : Binding → Result (List Binding) (List ℕ) → Result (List Binding) (List ℕ)
and_bindings binding (Ok bindings) = Ok (binding ∷ bindings)
and_bindings binding (Err value) = Err value

-- the bindings of words, or the first value that binds nothing
unfoldable pub fresh_by : FinMap name_cmp ℤ → List (List ℕ × Word) → Result (List Binding) (List ℕ)
fresh_by numbers [] = Ok []
fresh_by numbers (word ∷ words) = elim (binding_of (get numbers) word.1) [
  | None ↦ Err word.0
  | Some binding ↦ and_bindings binding (fresh_by (numbers_with numbers binding) words)
]

-- what values define
abbrev pub defined_by : List (List ℕ) → Defined
defined_by values = record {
  known = known_by empty (words_of empty values);
  fresh = fresh_by empty (words_of empty values);
}

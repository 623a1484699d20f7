-- The definitions' words that the code's values stand for.
use Rattle.std.specs.Prelude.{ℕ, List, map}
use Rattle.num_base.specs.Term.{term_of}
use Rattle.define_words.specs.Word.{Word, text, number, bad}
use Rattle.define_words.specs.declared.word.Says.{Says}
use Rattle.define_words.specs.declared.word.Says.TheVariants as says
use Rattle.define_words.specs.declared.word.Read as reads

abbrev pub word_view : Says → Word
word_view (says.Text name bytes) = text name bytes
word_view (says.Number name format expr) = number name format (term_of expr)
word_view says.Nothing = bad

-- a value with what it says
abbrev pub read_view : reads.Read → List ℕ × Word
read_view read = (read.value, word_view read.says)

abbrev pub reads_view : List reads.Read → List (List ℕ × Word)
reads_view all = map read_view all

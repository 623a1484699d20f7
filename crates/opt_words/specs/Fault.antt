-- What is told of a faulty word. Own rule: the texts.
use Rattle.std.specs.Prelude.{ℕ, List, codes}
use Rattle.opt_words.specs.declared.fault.WordFault.{WordFault}
use Rattle.opt_words.specs.declared.fault.WordFault.TheVariants.{Unknown, MissingValue, UnwantedValue, BadNumber, TwiceGiven}

-- the index of the word
abbrev pub word_of : WordFault → ℕ
word_of (Unknown at) = at
word_of (MissingValue at) = at
word_of (UnwantedValue at) = at
word_of (BadNumber at) = at
word_of (TwiceGiven at) = at

-- the text before the word, and the one behind it
abbrev pub text_before : WordFault → List ℕ
text_before (Unknown at) = codes "unknown option '"
text_before (MissingValue at) = codes "option '"
text_before (UnwantedValue at) = codes "option '"
text_before (BadNumber at) = codes "option '"
text_before (TwiceGiven at) = codes "option '"

abbrev pub text_behind : WordFault → List ℕ
text_behind (Unknown at) = codes "'"
text_behind (MissingValue at) = codes "' needs a value"
text_behind (UnwantedValue at) = codes "' takes no such value"
text_behind (BadNumber at) = codes "' needs another number"
text_behind (TwiceGiven at) = codes "' given twice"

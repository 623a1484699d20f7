-- What the words of `count` ask. Own rule: one word, a decimal number of 64 bits.
use Rattle.std.specs.Prelude.{⊤, ℕ, ◌<◌, ◌==◌, false, if◌then◌else◌, List, [], Option, Some, None, Result, Ok, Err}
use Rattle.opt_words.specs.Fault.{word_of}
use Rattle.opt_words.specs.Number.{decimal}
use Rattle.opt_words.specs.Reading.{first, givens, times}
use Rattle.opt_words.specs.Step.{value_of}
use Rattle.opt_words.specs.declared.fault.WordFault.{WordFault}
use Rattle.opt_words.specs.declared.step.Given.{Given}
use Rattle.not_count.specs.declared.asked.CountRefusal.{CountRefusal}
use Rattle.not_count.specs.declared.asked.CountRefusal.TheVariants.{FaultyWord, NotOneNumber}

-- a number, where there is one
abbrev pub number : Option ℕ → Result ℕ CountRefusal
number (Some n) = Ok n
number None = Err NotOneNumber

-- the number that the one plain word spells
abbrev pub one_number : ℕ → Option Given → List (List ℕ) → Result ℕ CountRefusal
one_number plain (Some given) words = if plain == 1 then number (decimal (value_of words given)) else Err NotOneNumber
one_number plain None words = Err NotOneNumber

-- what the words give comes to a number, or a refusal
abbrev pub asked_of : Result (List Given) WordFault → List (List ℕ) → Result ℕ CountRefusal
asked_of (Ok all) words = one_number (times 0 all) (first 0 all) words
asked_of (Err fault) words = Err (FaultyWord fault)

-- `count` has no options, so row 0 is that of plain words
abbrev pub asked : List (List ℕ) → Result ℕ CountRefusal
asked words = asked_of (givens [] false words) words

-- a faulty word is one of so many words
abbrev pub IsTold : ℕ → CountRefusal → Type 0
IsTold count (FaultyWord fault) = word_of fault < count
IsTold count NotOneNumber = ⊤

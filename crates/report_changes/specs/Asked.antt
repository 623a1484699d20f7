-- What the words of `lit_changes` ask. Own rule: two words, each the name of a report, the old one first; there are no options.
use Rattle.std.specs.Prelude.{⊤, ℕ, ◌<◌, false, List, [], ◌∷◌, Result, Ok, Err}
use Rattle.opt_words.specs.Fault.{word_of}
use Rattle.opt_words.specs.Reading.{givens}
use Rattle.opt_words.specs.declared.fault.WordFault.{WordFault}
use Rattle.opt_words.specs.declared.step.Given.{Given}
use Rattle.report_changes.specs.declared.asked.Reports.{Reports}
use Rattle.report_changes.specs.declared.asked.ChangesRefusal.{ChangesRefusal}
use Rattle.report_changes.specs.declared.asked.ChangesRefusal.TheVariants.{FaultyWord, NotTwoReports}

-- two plain words
abbrev pub two_of : List Given → Result Reports ChangesRefusal
two_of [] = Err NotTwoReports
two_of (one ∷ []) = Err NotTwoReports
two_of (old ∷ new ∷ []) = Ok (record { old = old.word; new = new.word })
two_of (old ∷ new ∷ more ∷ rest) = Err NotTwoReports

abbrev pub asked_of : Result (List Given) WordFault → Result Reports ChangesRefusal
asked_of (Ok all) = two_of all
asked_of (Err fault) = Err (FaultyWord fault)

abbrev pub asked : List (List ℕ) → Result Reports ChangesRefusal
asked words = asked_of (givens [] false words)

-- they are among so many words
abbrev pub AreWithin : ℕ → Reports → Type 0
AreWithin count asked = (asked.old < count) × (asked.new < count)

-- and so is a faulty word
abbrev pub IsTold : ℕ → ChangesRefusal → Type 0
IsTold count (FaultyWord fault) = word_of fault < count
IsTold count NotTwoReports = ⊤

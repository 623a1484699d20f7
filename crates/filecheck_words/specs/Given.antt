-- The options, and what the words give.
-- After LLVM Command Guide, FileCheck, 'OPTIONS'. Own rules: the forms of the options, --generate, --make-checks, --make-lead and
-- --refresh.
use Rattle.std.specs.Prelude.{ℕ, ◌-◌, false, ◌==◌, if◌then◌else◌, List, [], ◌∷◌, codes, All, Result, Ok, Err}
use Rattle.opt_words.specs.Reading.{AllStand, IsTally, givens}
use Rattle.opt_words.specs.Step.{Stands}
use Rattle.opt_words.specs.declared.fault.WordFault.{WordFault}
use Rattle.opt_words.specs.declared.row.Form.{Form}
use Rattle.opt_words.specs.declared.row.Form.TheVariants.{Flag, Glued, Many, Number, Once, Switch}
use Rattle.opt_words.specs.declared.row.Row.{Row}
use Rattle.opt_words.specs.declared.step.Given.{Given}
use Rattle.filecheck_words.specs.Fault.{faulty}
use Rattle.filecheck_words.specs.declared.fault.WordsFault.{WordsFault}
use Rattle.filecheck_words.specs.declared.given.GivenWords.{GivenWords}

abbrev pub row : List ℕ → Form → Row
row name form = record { name = name; form = form }

-- the rows are counted from 0, and a plain word has the number behind them
abbrev pub rows : List Row
rows =
    row (codes "check-prefix") Many ∷ row (codes "check-prefixes") Many ∷ row (codes "comment-prefixes") Many
    ∷ row (codes "input-file") Once ∷ row (codes "strict-whitespace") Flag ∷ row (codes "allow-empty") Flag
    ∷ row (codes "allow-unused-prefixes") Switch ∷ row (codes "enable-var-scope") Flag ∷ row (codes "D") Glued
    ∷ row (codes "dump-input") Once ∷ row (codes "generate") (Number 1 20000) ∷ row (codes "match-full-lines") Flag
    ∷ row (codes "ignore-case") Flag ∷ row (codes "implicit-check-not") Many
    ∷ row (codes "dump-input-context") (Number 0 1000000) ∷ row (codes "dump-input-filter") Once
    ∷ row (codes "make-checks") Flag ∷ row (codes "make-lead") Once ∷ row (codes "refresh") Once ∷ []

-- what the words give in order, or the first faulty word
abbrev pub unless_faulty : List (List ℕ) → Result (List Given) WordFault → Result (List Given) WordsFault
unless_faulty words (Ok all) = Ok all
unless_faulty words (Err fault) = Err (faulty words fault)

abbrev pub given_by : List (List ℕ) → Result (List Given) WordsFault
given_by words = unless_faulty words (givens rows false words)

-- the words were read, and all that they give stands in them
pub record IsRead (words : List (List ℕ)) (given : GivenWords) : Type 0 where
  pub tally : IsTally 19 given.all given.settings
  pub stand : AllStand 19 words given.settings
  pub each : All (Stands words) given.all

-- the word that names the option of a value: its own one, or the one before where the value is a whole word
abbrev pub named_at : Given → ℕ
named_at given = if given.at == 0 then given.word - 1 else given.word

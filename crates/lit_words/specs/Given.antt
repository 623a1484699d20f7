-- The options, and what the words give.
-- After LLVM Command Guide, lit, 'OPTIONS': -v, -a, -q, -j, --workers, --num-shards, --run-shard and --show-tests.
-- Own rules: --select, --drop and --json, the bounds of the numbers, and which options are given once.
use Rattle.std.specs.Prelude.{ℕ, ◌-◌, Bool, false, ◌==◌, nat_lt, if◌then◌else◌, List, [], ◌∷◌, codes, All, Result, Ok, Err}
use Rattle.opt_words.specs.Reading.{AllStand, IsTally, givens, times}
use Rattle.opt_words.specs.Step.{Stands}
use Rattle.opt_words.specs.declared.fault.WordFault.{WordFault}
use Rattle.opt_words.specs.declared.row.Form.{Form}
use Rattle.opt_words.specs.declared.row.Form.TheVariants.{Flag, Number, Once}
use Rattle.opt_words.specs.declared.row.Row.{Row}
use Rattle.opt_words.specs.declared.step.Given.{Given}
use Rattle.lit_words.specs.Fault.{faulty}
use Rattle.lit_words.specs.declared.fault.LitWordsFault.{LitWordsFault}
use Rattle.lit_words.specs.declared.given.GivenWords.{GivenWords}

abbrev pub row : List ℕ → Form → Row
row name form = record { name = name; form = form }

-- the rows are counted from 0, and a plain word has the number behind them
abbrev pub rows : List Row
rows =
    row (codes "v") Flag ∷ row (codes "a") Flag ∷ row (codes "q") Flag ∷ row (codes "j") (Number 1 64)
    ∷ row (codes "workers") (Number 1 64) ∷ row (codes "select") Once ∷ row (codes "drop") Once
    ∷ row (codes "num-shards") (Number 1 20000) ∷ row (codes "run-shard") (Number 1 20000)
    ∷ row (codes "show-tests") Flag ∷ row (codes "json") Flag ∷ []

-- what the words give in order, or the first faulty word
abbrev pub unless_faulty : List (List ℕ) → Result (List Given) WordFault → Result (List Given) LitWordsFault
unless_faulty words (Ok all) = Ok all
unless_faulty words (Err fault) = Err (faulty words fault)

abbrev pub given_by : List (List ℕ) → Result (List Given) LitWordsFault
given_by words = unless_faulty words (givens rows false words)

-- the words were read, and all that they give stands in them
pub record IsRead (words : List (List ℕ)) (given : GivenWords) : Type 0 where
  pub tally : IsTally 11 given.all given.settings
  pub stand : AllStand 11 words given.settings
  pub each : All (Stands words) given.all

-- whether a row is given
abbrev pub is_given : ℕ → List Given → Bool
is_given row all = nat_lt 0 (times row all)

-- the word that names the option of a value: its own one, or the one before where the value is a whole word
abbrev pub named_at : Given → ℕ
named_at given = if given.at == 0 then given.word - 1 else given.word

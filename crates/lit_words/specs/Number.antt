-- The numbers that words give: of workers, and of shards.
-- After LLVM Command Guide, lit, -j, --workers, --num-shards and --run-shard. Own rules: which of them don't fit
-- together, and that one worker runs where no number is given.
use Rattle.std.specs.Prelude.{ℕ, ◌≤◌, ◌&&◌, nat_le, if◌then◌else◌, List, Option, Some, None, Result, Ok, Err}
use Rattle.opt_words.specs.Number.{decimal}
use Rattle.opt_words.specs.Step.{value_of}
use Rattle.opt_words.specs.declared.fault.WordFault.TheVariants.{BadNumber}
use Rattle.opt_words.specs.declared.step.Given.{Given}
use Rattle.lit_words.specs.Fault.{◌>>=◌, faulty}
use Rattle.lit_words.specs.Given.{named_at}
use Rattle.lit_words.specs.declared.fault.LitWordsFault.{LitWordsFault}
use Rattle.lit_words.specs.declared.fault.LitWordsFault.TheVariants.{Misfit}
use Rattle.lit_words.specs.declared.number.Shard.{Shard}

-- ---- a number from 1 to a greatest one

abbrev pub bad_number : List (List ℕ) → Given → Result ℕ LitWordsFault
bad_number words given = Err (faulty words (BadNumber (named_at given)))

abbrev pub within : List (List ℕ) → ℕ → Given → Option ℕ → Result ℕ LitWordsFault
within words most given None = bad_number words given
within words most given (Some n) = if nat_le 1 n && nat_le n most then Ok n else bad_number words given

abbrev pub number_of : List (List ℕ) → ℕ → Given → Result ℕ LitWordsFault
number_of words most given = within words most given (decimal (value_of words given))

-- ---- workers, by what is given of -j and of --workers

abbrev pub workers_of : List (List ℕ) → Option Given → Option Given → Result ℕ LitWordsFault
workers_of words None None = Ok 1
workers_of words (Some given) None = number_of words 64 given
workers_of words None (Some given) = number_of words 64 given
workers_of words (Some one) (Some other) = Err Misfit

-- ---- the shard, by what is given of --num-shards and of --run-shard

abbrev pub as_shard : ℕ → ℕ → Result (Option Shard) LitWordsFault
as_shard shards run = if nat_le run shards then Ok (Some (record { shards = shards; run = run })) else Err Misfit

abbrev pub shard_beside : List (List ℕ) → Given → Given → Result (Option Shard) LitWordsFault
shard_beside words all one = do
  shards ← number_of words 20000 all
  run ← number_of words 20000 one
  as_shard shards run

abbrev pub shard_of : List (List ℕ) → Option Given → Option Given → Result (Option Shard) LitWordsFault
shard_of words None None = Ok None
shard_of words (Some all) (Some one) = shard_beside words all one
shard_of words (Some all) None = Err Misfit
shard_of words None (Some one) = Err Misfit

-- a shard is one of as many as there are
abbrev pub IsShard : Shard → Type 0
IsShard shard = (1 ≤ shard.run) × (shard.run ≤ shard.shards)

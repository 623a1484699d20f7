-- What the words of the command line ask for, or the first refusal: of the words by the table, for want of a path, of
-- options that don't fit together, of the expression of --select, and of that of --drop.
-- After LLVM Command Guide, lit, 'OPTIONS'. Own rules: this order, and which of -q, -a and -v counts.
use Rattle.std.specs.Prelude.{ℕ, ◌<◌, ◌≤◌, Bool, ◌||◌, if◌then◌else◌, List, length, Option, IfSome, Result, Ok, Err}
use Rattle.std.specs.Option.{option_map}
use Rattle.ere_tree.specs.Tree.{Tree}
use Rattle.ere_tree.specs.View.{view}
use Rattle.opt_words.specs.Reading.{last}
use Rattle.opt_words.specs.declared.step.Given.{Given}
use Rattle.lit_words.specs.Expression.{expression_of}
use Rattle.lit_words.specs.Fault.{◌>>=◌}
use Rattle.lit_words.specs.Given.{given_by, is_given}
use Rattle.lit_words.specs.Number.{IsShard, shard_of, workers_of}
use Rattle.lit_words.specs.Paths.{paths_of, some_paths}
use Rattle.lit_words.specs.declared.asked.LitAsked.{LitAsked}
use Rattle.lit_words.specs.declared.asked.Detail.{Detail}
use Rattle.lit_words.specs.declared.asked.Detail.TheVariants.{Quiet, Whole, Verbose, Plain, Json}
use Rattle.lit_words.specs.declared.fault.LitWordsFault.{LitWordsFault}
use Rattle.lit_words.specs.declared.fault.LitWordsFault.TheVariants.{Misfit}
use Rattle.lit_words.specs.declared.number.Shard.{Shard}

-- what is asked for, with expressions as trees
pub record Wanted : Type 0 where
  pub paths : List (List ℕ)
  pub show : Bool
  pub detail : Detail
  pub workers : ℕ
  pub select : Option Tree
  pub drop : Option Tree
  pub shard : Option Shard

abbrev pub wanted : LitAsked → Wanted
wanted asked = record {
  paths = asked.paths;
  show = asked.show;
  detail = asked.detail;
  workers = asked.workers;
  select = option_map view asked.select;
  drop = option_map view asked.drop;
  shard = asked.shard;
}

-- what is shown in a text: of several, -q counts before -a, and -a before -v
abbrev pub text_detail_of : List Given → Detail
text_detail_of all =
    if is_given 2 all then Quiet
    else if is_given 1 all then Whole
    else if is_given 0 all then Verbose
    else Plain

-- -v, -a, -q and --show-tests say what is shown of a text
abbrev pub is_text_asked : List Given → Bool
is_text_asked all = is_given 0 all || is_given 1 all || is_given 2 all || is_given 9 all

-- what is shown: JSON goes with none of these
abbrev pub detail_of : List Given → Result Detail LitWordsFault
detail_of all =
    if is_given 10 all then (if is_text_asked all then Err Misfit else Ok Json)
    else Ok (text_detail_of all)

-- what is asked for by what the words give, or the first refusal
abbrev pub wanted_by : List (List ℕ) → List Given → Result Wanted LitWordsFault
wanted_by words all = do
  paths ← some_paths (paths_of words all)
  detail ← detail_of all
  workers ← workers_of words (last 3 all) (last 4 all)
  shard ← shard_of words (last 7 all) (last 8 all)
  select ← expression_of words (last 5 all)
  drop ← expression_of words (last 6 all)
  Ok (record {
    paths = paths;
    show = is_given 9 all;
    detail = detail;
    workers = workers;
    select = select;
    drop = drop;
    shard = shard;
  })

abbrev pub asked_by : List (List ℕ) → Result Wanted LitWordsFault
asked_by words = do
  all ← given_by words
  wanted_by words all

-- there is a path, and the numbers are within their bounds
pub record IsSound (asked : LitAsked) : Type 0 where
  pub some : 0 < length asked.paths
  pub least : 1 ≤ asked.workers
  pub most : asked.workers ≤ 64
  pub shard : IfSome asked.shard IsShard

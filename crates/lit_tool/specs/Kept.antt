-- The tests that are kept of those that were found.
-- After LLVM Command Guide, lit, --num-shards and --run-shard, for what a shard is. Own rules: a test's place decides
-- its shard, selection comes before it, and an empty selection is refused where an empty shard isn't.
use Rattle.std.specs.Prelude.{ℕ, ◌+◌, ◌%◌, ◌==◌, Bool, if◌then◌else◌, List, [], ◌∷◌, map, Option, Some, None, Result, Ok, Err}
use Rattle.lit_select.specs.Selection.{selected}
use Rattle.lit_words.specs.Asked.{Wanted}
use Rattle.lit_words.specs.declared.number.Shard.{Shard}
use Rattle.lit_tool.specs.declared.stop.LitStop.{LitStop}
use Rattle.lit_tool.specs.declared.stop.LitStop.TheVariants.{NoneSelected}
use Rattle.tt_outside.specs.declared.test_data.Test.{Test}

-- the place of a test, counted from 0, makes it one of a shard
abbrev pub has_place : Shard → ℕ → Bool
has_place shard place = place % shard.shards + 1 == shard.run

-- the tests of a shard, or their names, from a place on
abbrev pub shard_from : {A : Type 0} → Shard → ℕ → List A → List A
shard_from shard place [] = []
shard_from shard place (item ∷ items) =
    if has_place shard place then item ∷ shard_from shard (place + 1) items else shard_from shard (place + 1) items

abbrev pub sharded : {A : Type 0} → Option Shard → List A → List A
sharded None items = items
sharded (Some shard) items = shard_from shard 0 items

-- there is a test before shards are made
abbrev pub unless_none : {A : Type 0} → Option Shard → List A → Result (List A) LitStop
unless_none shard [] = Err NoneSelected
unless_none shard (item ∷ items) = Ok (sharded shard (item ∷ items))

-- the tests that are kept by what is asked for
abbrev pub kept_of : Wanted → List Test → Result (List Test) LitStop
kept_of wanted tests = unless_none wanted.shard (selected wanted.select wanted.drop tests)

-- the names of tests
abbrev pub names_of : List Test → List (List ℕ)
names_of tests = map (λ test. test.name) tests

-- the names of the tests, where there are any
abbrev pub names_in : {E : Type 0} → Result (List Test) E → Result (List (List ℕ)) E
names_in (Ok tests) = Ok (names_of tests)
names_in (Err fault) = Err fault

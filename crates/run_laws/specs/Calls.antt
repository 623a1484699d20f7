-- Calls of lit that ask for the same, but for the number of workers.
-- Own rule: the tree and the words tell which tests there are, and the number of workers has no part in that.
use Rattle.std.specs.Prelude.{◌≡◌, ℕ, ◌≤◌, false, List, Some, Ok}
use Rattle.tt_outside.specs.Gave.{IsSteady, SameGave}
use Rattle.tt_outside.specs.declared.crew.Crew.{Ghosts as OfCrew}
use Rattle.tt_outside.specs.declared.sink.Sink.{Ghosts as OfSink}
use Rattle.tt_outside.specs.declared.test_data.Test.{Test}
use Rattle.tt_outside.specs.declared.tree.Node.{Node}
use Rattle.tt_outside.specs.declared.tree.Tree.{Ghosts as OfTree}
use Rattle.lit_find.specs.Found.{AreTests}
use Rattle.lit_paths.specs.Paths.{Parts}
use Rattle.lit_tool.specs.Run.{Call, LitEnds, call}
use Rattle.lit_words.specs.Asked.{Wanted, asked_by}
use Rattle.run_laws.specs.Workers.{EndsAlike}
use Rattle.run_report.specs.declared.ending.LitEnd.{LitEnd}

-- Law: words and a tree have one list of tests.
abbrev pub IsOneList : Type 0
IsOneList =
    (nodes : List Node) (words : List Parts) (one other : List Test) → AreTests nodes words one → AreTests nodes words other
    → one ≡ other

-- the same is asked for, but for the number of workers
abbrev pub with_workers : ℕ → Wanted → Wanted
with_workers workers wanted = record {
  paths = wanted.paths;
  show = wanted.show;
  detail = wanted.detail;
  workers = workers;
  select = wanted.select;
  drop = wanted.drop;
  shard = wanted.shard;
}

-- Law: two calls whose words ask for the same tests to be run, on trees that tell the same, by any numbers of workers, end in the same
-- way where each test is reported and hands give the same, and that each time.
abbrev pub IsOneAnswer : Call → Call → Type 0
IsOneAnswer c d =
    (words others : List (List ℕ)) (wanted : Wanted) (workers : ℕ) (nodes : List Node) (one other : LitEnd)
    → asked_by words ≡ Ok wanted → asked_by others ≡ Ok (with_workers workers wanted) → wanted.show ≡ false
    → c.searched.nodes ≡ Some nodes → d.searched.nodes ≡ Some nodes → d.searched.base ≡ c.searched.base
    → IsSteady c.around.hired.gave → SameGave d.around.hired.gave c.around.hired.gave
    → LitEnds words c one → LitEnds others d other → one.status ≤ 1 → other.status ≤ 1
    → EndsAlike c.around d.around one other

-- any two calls, on trees, by crews and on streams of these types
abbrev pub OfCalls : {T C H O E : Type 0} → OfTree T → OfCrew C H → OfSink O → OfSink E → (Call → Call → Type 0) → Type 0
OfCalls {T} {C} {H} {O} {E} searched hired report told Law =
    (bare seen fresh found : T) (first last again end : C) (blank full empty whole : O) (calm spoke silent cried : E)
    → Law (call searched hired report told bare seen first last blank full calm spoke)
    (call searched hired report told fresh found again end empty whole silent cried)

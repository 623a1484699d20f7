-- A call of lit, by what the words ask for.
-- Own rules: the tree is looked at only where the words are accepted; names are shown, or tests run, where there are any.
use Rattle.std.specs.Prelude.{◌≡◌, ◌≢◌, ◌⊎◌, ℕ, Bool, true, false, List, Option, Result, Ok, Err}
use Rattle.tt_outside.specs.Faults.{Rose}
use Rattle.tt_outside.specs.declared.crew.Crew.{Ghosts as OfCrew}
use Rattle.tt_outside.specs.declared.sink.Sink.{Ghosts as OfSink}
use Rattle.tt_outside.specs.declared.test_data.Test.{Test}
use Rattle.tt_outside.specs.declared.tree.Node.{Node}
use Rattle.tt_outside.specs.declared.tree.Tree.{Ghosts as OfTree}
use Rattle.tt_run.specs.Run.{Stream, crew_of, stream_of}
use Rattle.lit_find.specs.Found.{Discovers}
use Rattle.lit_dirs.specs.declared.fault.DiscoverFault.{DiscoverFault}
use Rattle.lit_dirs.specs.declared.fault.DiscoverFault.TheVariants.{TreeFault, NoMemory}
use Rattle.lit_words.specs.Asked.{Wanted, asked_by}
use Rattle.lit_words.specs.declared.asked.Detail.{Detail}
use Rattle.lit_words.specs.declared.fault.LitWordsFault.{LitWordsFault}
use Rattle.run_report.specs.Run.{Around, NoHand, Rests, RunEnds, are_told, around, untried}
use Rattle.run_report.specs.declared.ending.LitEnd.{LitEnd}
use Rattle.lit_tool.specs.Answer.{LacksMemory, TellsNames, TellsStop}
use Rattle.lit_tool.specs.Kept.{kept_of, names_in}
use Rattle.lit_tool.specs.declared.stop.LitStop.{LitStop}
use Rattle.lit_tool.specs.declared.stop.LitStop.TheVariants.{Words, Discovery, NotText}

-- ---- the tree

-- a tree: what it tells, its base, whether no call fails for certain, and its count of faults as a run found and left it
pub record TreeRun : Type 1 where
  pub nodes : Option (List Node)
  pub base : List ℕ
  pub steady : Type 0
  pub before : ℕ
  pub now : ℕ

abbrev pub tree : {T : Type 0} → OfTree T → T → T → TreeRun
tree from old new = record {
  nodes = from.nodes old;
  base = from.root old;
  steady = from.steady old;
  before = from.faults old;
  now = from.faults new;
}

-- a tree that was left alone
abbrev pub TreeRests : TreeRun → Type 0
TreeRests t = t.now ≡ t.before

-- a discovery by these paths answered this; a fault of the tree was counted, and a tree of which no call fails has none;
-- else the tree was left as it was
abbrev pub TreeSearched : TreeRun → List (List ℕ) → Result (List Test) DiscoverFault → Type 0
TreeSearched t paths found =
    Discovers t.nodes t.base paths found × (found ≡ Err TreeFault → Rose t.before t.now × (t.steady → ⊥))
    × (found ≢ Err TreeFault → TreeRests t) × (found ≢ Err NoMemory)

-- the tests that are kept of those found, or why there are none
abbrev pub shown_of : Wanted → Result (List Test) DiscoverFault → Result (List Test) LitStop
shown_of wanted (Ok tests) = kept_of wanted tests
shown_of wanted (Err fault) = Err (Discovery fault)

-- the tree was searched, and these tests are kept, or why there are none
abbrev pub TestsFrom : TreeRun → Wanted → Result (List Test) LitStop → Type 0
TestsFrom t wanted outcome =
    (found : Result (List Test) DiscoverFault) × TreeSearched t wanted.paths found × (outcome ≡ shown_of wanted found)

-- the same, of their names
abbrev pub NamesFrom : TreeRun → Wanted → Result (List (List ℕ)) LitStop → Type 0
NamesFrom t wanted named =
    (found : Result (List Test) DiscoverFault) × TreeSearched t wanted.paths found
    × (named ≡ names_in (shown_of wanted found))

-- ---- a call

-- what lit is handed: a tree, a crew, and the streams of the report and of messages
pub record Call : Type 1 where
  pub searched : TreeRun
  pub around : Around

abbrev pub call : {T C H O E : Type 0} → OfTree T → OfCrew C H → OfSink O → OfSink E → T → T → C → C → O → O → E → E → Call
call searched hired report told from past crew behind out written err more = record {
  searched = tree searched from past;
  around = around (crew_of hired crew behind) (stream_of report out written) (stream_of told err more);
}

-- no test was run: the status alone is left, and no hand was hired
abbrev pub NothingRan : Around → LitEnd → Type 0
NothingRan a end = (end ≡ untried end.status) × NoHand a.hired

-- where nothing is to be run, why is told
abbrev pub Refuses : LitStop → Around → LitEnd → Type 0
Refuses stop a end = NothingRan a end × Rests a.out × TellsStop stop end.status a.err

-- tests are run, unless there is one of which the report can't tell
abbrev pub RunsTold : Bool → Detail → ℕ → List Test → Around → LitEnd → Type 0
RunsTold true detail workers tests a end = RunEnds detail workers tests a end
RunsTold false detail workers tests a end = Refuses NotText a end

-- tests are run, or why there are none is told
abbrev pub RunsTests : Detail → ℕ → Result (List Test) LitStop → Around → LitEnd → Type 0
RunsTests detail workers (Ok tests) a end = RunsTold (are_told detail tests) detail workers tests a end
RunsTests detail workers (Err stop) a end = Refuses stop a end

-- their names are shown where that is asked, and else they are run
abbrev pub ShowsOrRuns : Bool → Detail → ℕ → Result (List Test) LitStop → Around → LitEnd → Type 0
ShowsOrRuns true detail workers outcome a end = NothingRan a end × TellsNames outcome end.status a.out a.err
ShowsOrRuns false detail workers outcome a end = RunsTests detail workers outcome a end

-- what the words ask for is done, or they are refused and the tree is left alone
abbrev pub AskedEnds : Result Wanted LitWordsFault → TreeRun → Around → LitEnd → Type 0
AskedEnds (Ok wanted) t a end =
    (outcome : Result (List Test) LitStop) × TestsFrom t wanted outcome × ShowsOrRuns wanted.show wanted.detail wanted.workers outcome a end
AskedEnds (Err fault) t a end = TreeRests t × Refuses (Words fault) a end

-- how a call ends, by the texts of its words: memory is wanting before a byte, or what they ask for is done
abbrev pub LitEnds : List (List ℕ) → Call → LitEnd → Type 0
LitEnds words c end =
    (NothingRan c.around end × LacksMemory end.status c.around.out c.around.err)
    ⊎ AskedEnds (asked_by words) c.searched c.around end

-- ---- its two ways

-- names are shown, or memory is wanting
abbrev pub ShowsFrom : TreeRun → Wanted → ℕ → Stream → Stream → Type 0
ShowsFrom t wanted status out err =
    LacksMemory status out err
    ⊎ ((outcome : Result (List Test) LitStop) × TestsFrom t wanted outcome × TellsNames outcome status out err)

-- tests are run, or memory is wanting before that
abbrev pub RunsFrom : Wanted → Call → LitEnd → Type 0
RunsFrom wanted c end =
    (NothingRan c.around end × LacksMemory end.status c.around.out c.around.err)
    ⊎ ((outcome : Result (List Test) LitStop) × TestsFrom c.searched wanted outcome × RunsTests wanted.detail wanted.workers outcome c.around end)

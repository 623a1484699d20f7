-- Status 3 comes of a fault that was counted.
-- Shown: a call that ends with 3 had a tree or a stream that failed. By cases on what the words asked for, and on what a discovery
-- answered. The hard one is `fault_of_tests`: keeping tests makes no fault of the tree.
use Rattle.std.proofs.Common.{◌≡◌, ◌⊎◌, ℕ, Bool, true, false, List, [], ◌∷◌, Option, Result, Ok, Err, sym, ◌∙◌, ap, inl, inr, refl}
use Rattle.tt_outside.specs.Faults.{Rose}
use Rattle.tt_outside.specs.declared.test_data.Test.{Test}
use Rattle.tt_run.specs.Run.{Stream}
use Rattle.lit_dirs.specs.declared.fault.DiscoverFault.{DiscoverFault}
use Rattle.lit_dirs.specs.declared.fault.DiscoverFault.TheVariants.{Missing, PythonConfig, NoSuite, BadSuite, SuiteTooLarge, TooMany, TooManyItems, NoTests, TreeFault, NoMemory}
use Rattle.lit_select.specs.Selection.{selected}
use Rattle.lit_words.specs.Asked.{Wanted, asked_by}
use Rattle.lit_words.specs.declared.asked.Detail.{Detail}
use Rattle.lit_words.specs.declared.fault.LitWordsFault.{LitWordsFault}
use Rattle.lit_words.specs.declared.number.Shard.{Shard}
use Rattle.run_report.specs.Run.{Around, are_told}
use Rattle.run_report.specs.declared.ending.LitEnd.{LitEnd}
use Rattle.run_report.proofs.FaultLemmas.{StreamFailed, run_fault}
use Rattle.lit_tool.specs.Answer.{TellsNames, TellsStop, status_of}
use Rattle.lit_tool.specs.Kept.{unless_none}
use Rattle.lit_tool.specs.Run.{AskedEnds, Call, LitEnds, RunsTold, ShowsOrRuns, TestsFrom, TreeRun}
use Rattle.lit_tool.specs.declared.stop.LitStop.{LitStop}
use Rattle.lit_tool.specs.declared.stop.LitStop.TheVariants.{Words, Discovery, NoneSelected, NotText}

-- the tree failed
abbrev pub IsFault : Result (List Test) LitStop → Type 0
IsFault outcome = outcome ≡ Err (Discovery TreeFault)

-- a stop of status 3 is a fault of the tree
found_fault : (fault : DiscoverFault) → status_of (Discovery fault) ≡ 3 → IsFault (Err (Discovery fault))
found_fault (Missing path) is = cc
found_fault (PythonConfig path) is = cc
found_fault (NoSuite path) is = cc
found_fault (BadSuite path fault) is = cc
found_fault (SuiteTooLarge path) is = cc
found_fault TooMany is = cc
found_fault TooManyItems is = cc
found_fault NoTests is = cc
found_fault TreeFault is = refl
found_fault NoMemory is = cc

stop_fault : (stop : LitStop) → status_of stop ≡ 3 → IsFault (Err stop)
stop_fault (Words fault) is = cc
stop_fault NoneSelected is = cc
stop_fault NotText is = cc
stop_fault (Discovery fault) is = found_fault fault is

-- keeping tests makes none
kept_calm : (shard : Option Shard) (tests : List Test) → IsFault (unless_none shard tests) → ⊥
kept_calm shard [] is = cc
kept_calm shard (test ∷ tests) is = cc

-- the discovery's answer is that of the outcome
same_fault : (fault : DiscoverFault) → IsFault (Err (Discovery fault)) → fault ≡ TreeFault
same_fault fault is = cc

-- the tree counted a fault, and so it isn't one of which no call fails
abbrev pub Failed : TreeRun → Type 0
Failed t = Rose t.before t.now × (t.steady → ⊥)

fault_of_tests : (t : TreeRun) (wanted : Wanted) (outcome : Result (List Test) LitStop) → TestsFrom t wanted outcome
    → IsFault outcome → Failed t
fault_of_tests t wanted outcome (Ok tests, searched, same) is =
    absurd (kept_calm wanted.shard (selected wanted.select wanted.drop tests) (sym same ∙ is))
fault_of_tests t wanted outcome (Err fault, searched, same) is =
    searched.1 (ap Err (same_fault fault (sym same ∙ is)))

-- ---- what is told

-- a stop was told with status 3: it is a fault of the tree, or the stream failed
told_three : (stop : LitStop) (status : ℕ) (err : Stream) → TellsStop stop status err → status ≡ 3
    → IsFault (Err stop) ⊎ Rose err.before err.now
told_three stop status err (inl (four, told)) is = cc
told_three stop status err (inr (inl (same, taken))) is = inl (stop_fault stop (sym same ∙ is))
told_three stop status err (inr (inr (three, stopped))) is = inr stopped.1

names_three : (outcome : Result (List Test) LitStop) (status : ℕ) (out err : Stream) → TellsNames outcome status out err
    → status ≡ 3 → IsFault outcome ⊎ StreamFailed out err
names_three (Ok tests) status out err (inl (taken, inl (same, told))) is = cc
names_three (Ok tests) status out err (inl (taken, inr (three, stopped))) is = inr (inr stopped.1)
names_three (Ok tests) status out err (inr (three, stopped, told)) is = inr (inl stopped.1)
names_three (Err stop) status out err (rests, told) is =
    elim (told_three stop status err told is) [
      | inl fault ↦ inl fault
      | inr rose ↦ inr (inr rose)
    ]

tests_three : (all : Bool) (detail : Detail) (workers : ℕ) (tests : List Test) (a : Around) (end : LitEnd)
    → RunsTold all detail workers tests a end → end.status ≡ 3 → StreamFailed a.out a.err
tests_three true detail workers tests a end runs is = run_fault detail workers tests a end runs is
tests_three false detail workers tests a end (nothing, rests, told) is =
    elim (told_three NotText end.status a.err told is) [
      | inl fault_is ↦ absurd (let no = fault_is in cc)
      | inr rose ↦ inr rose
    ]

ends_three : (show : Bool) (detail : Detail) (workers : ℕ) (outcome : Result (List Test) LitStop) (a : Around) (end : LitEnd)
    → ShowsOrRuns show detail workers outcome a end → end.status ≡ 3 → IsFault outcome ⊎ StreamFailed a.out a.err
ends_three true detail workers outcome a end (nothing, tells) is = names_three outcome end.status a.out a.err tells is
ends_three false detail workers (Ok tests) a end runs is =
    inr (tests_three (are_told detail tests) detail workers tests a end runs is)
ends_three false detail workers (Err stop) a end (nothing, rests, told) is =
    elim (told_three stop end.status a.err told is) [
      | inl fault ↦ inl fault
      | inr rose ↦ inr (inr rose)
    ]

asked_three : (asked : Result Wanted LitWordsFault) (t : TreeRun) (a : Around) (end : LitEnd) → AskedEnds asked t a end
    → end.status ≡ 3 → Failed t ⊎ StreamFailed a.out a.err
asked_three (Ok wanted) t a end (outcome, from, ends) is =
    elim (ends_three wanted.show wanted.detail wanted.workers outcome a end ends is) [
      | inl fault ↦ inl (fault_of_tests t wanted outcome from fault)
      | inr failed ↦ inr failed
    ]
asked_three (Err fault) t a end (rests, (nothing, still, told)) is =
    elim (told_three (Words fault) end.status a.err told is) [
      | inl fault_is ↦ absurd (let no = fault_is in cc)
      | inr rose ↦ inr (inr rose)
    ]

three_of_call : (words : List (List ℕ)) (c : Call) (end : LitEnd) → LitEnds words c end → end.status ≡ 3
    → Failed c.searched ⊎ StreamFailed c.around.out c.around.err
three_of_call words c end (inl (nothing, (four, rests, told))) is = cc
three_of_call words c end (inr ends) is = asked_three (asked_by words) c.searched c.around end ends is

pub fault_of_call : (words : List (List ℕ)) (c : Call) (end : LitEnd) → LitEnds words c end → end.status ≡ 3
    → Rose c.searched.before c.searched.now ⊎ StreamFailed c.around.out c.around.err
fault_of_call words c end ends is =
    elim (three_of_call words c end ends is) [
      | inl failed ↦ inl failed.0
      | inr streams ↦ inr streams
    ]

-- and over a tree of which no call fails of a stream's
pub fault_of_streams : (words : List (List ℕ)) (c : Call) (end : LitEnd) → LitEnds words c end → c.searched.steady
    → end.status ≡ 3 → StreamFailed c.around.out c.around.err
fault_of_streams words c end ends steady is =
    elim (three_of_call words c end ends is) [
      | inl failed ↦ absurd (failed.1 steady)
      | inr streams ↦ streams
    ]

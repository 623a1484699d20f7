-- A call of lit, put together of what its steps left. Each lemma is a way to end it: memory was wanting, the words are refused, names
-- are shown, tests are run, or no test is. Where no test was run the status is the one that was handed on (`status_is`), and no hand
-- was hired. None is hard: the definitions go by cases of what was asked, and each lemma is in one of them.
use Rattle.std.proofs.Common.{◌≡◌, ℕ, true, false, List, Ok, Err, sym, ◌∙◌, ap, subst, inl, inr}
use Rattle.lit_words.specs.Asked.{Wanted, asked_by}
use Rattle.lit_words.specs.declared.fault.LitWordsFault.{LitWordsFault}
use Rattle.run_report.specs.Run.{Around, NoHand, Rests, RunEnds, are_told, untried}
use Rattle.run_report.specs.declared.ending.LitEnd.{LitEnd}
use Rattle.lit_tool.specs.Answer.{LacksMemory, TellsNames, TellsStop}
use Rattle.lit_tool.specs.Run.{AskedEnds, Call, LitEnds, NothingRan, Refuses, RunsFrom, RunsTold, ShowsFrom, ShowsOrRuns, TestsFrom, TreeRests}
use Rattle.lit_tool.specs.declared.stop.LitStop.{LitStop}
use Rattle.lit_tool.specs.declared.stop.LitStop.TheVariants.{Words, NotText}
use Rattle.tt_outside.specs.declared.test_data.Test.{Test}

-- the status of a run that left its status alone
status_is : (status : ℕ) (end : LitEnd) → end ≡ untried status → end.status ≡ status
status_is status end same = ap (λ (e : LitEnd). e.status) same

pub nothing_ran : (status : ℕ) (a : Around) (end : LitEnd) → end ≡ untried status → NoHand a.hired → NothingRan a end
nothing_ran status a end same nobody = (same ∙ ap untried (sym (status_is status end same)), nobody)

-- memory was wanting
pub lacks : (status : ℕ) (words : List (List ℕ)) (c : Call) (end : LitEnd) → end ≡ untried status → NoHand c.around.hired
    → LacksMemory status c.around.out c.around.err → LitEnds words c end
lacks status words c end same nobody lack =
    inl (
      nothing_ran status c.around end same nobody,
      subst (λ n. LacksMemory n c.around.out c.around.err) (sym (status_is status end same)) lack,
    )

-- the words are refused
pub refused : (status : ℕ) (words : List (List ℕ)) (fault : LitWordsFault) (c : Call) (end : LitEnd)
    → asked_by words ≡ Err fault → end ≡ untried status → NoHand c.around.hired → TreeRests c.searched → Rests c.around.out
    → TellsStop (Words fault) status c.around.err → LitEnds words c end
refused status words fault c end is same nobody still rests told =
    inr (subst (λ asked. AskedEnds asked c.searched c.around end) (sym is) (
      still,
      (
        nothing_ran status c.around end same nobody,
        rests,
        subst (λ n. TellsStop (Words fault) n c.around.err) (sym (status_is status end same)) told,
      ),
    ))

-- names are shown
pub showed : (status : ℕ) (words : List (List ℕ)) (wanted : Wanted) (c : Call) (end : LitEnd)
    → asked_by words ≡ Ok wanted → wanted.show ≡ true → end ≡ untried status → NoHand c.around.hired
    → ShowsFrom c.searched wanted status c.around.out c.around.err → LitEnds words c end
showed status words wanted c end is show same nobody (inl lack) = lacks status words c end same nobody lack
showed status words wanted c end is show same nobody (inr (outcome, from, tells)) =
    let at = sym (status_is status end same) in
    let ends : ShowsOrRuns true wanted.detail wanted.workers outcome c.around end =
    (nothing_ran status c.around end same nobody, subst (λ n. TellsNames outcome n c.around.out c.around.err) at tells) in
    inr (subst (λ asked. AskedEnds asked c.searched c.around end) (sym is)
    (outcome, from, subst (λ b. ShowsOrRuns b wanted.detail wanted.workers outcome c.around end) (sym show) ends))

-- tests are run
pub ran : (words : List (List ℕ)) (wanted : Wanted) (c : Call) (end : LitEnd) → asked_by words ≡ Ok wanted
    → wanted.show ≡ false → RunsFrom wanted c end → LitEnds words c end
ran words wanted c end is show (inl lack) = inl lack
ran words wanted c end is show (inr (outcome, from, runs)) =
    inr (subst (λ asked. AskedEnds asked c.searched c.around end) (sym is)
    (outcome, from, subst (λ b. ShowsOrRuns b wanted.detail wanted.workers outcome c.around end) (sym show) runs))

-- tests of which the report can tell are run
pub told_run : (wanted : Wanted) (tests : List Test) (c : Call) (end : LitEnd) → TestsFrom c.searched wanted (Ok tests)
    → are_told wanted.detail tests ≡ true → RunEnds wanted.detail wanted.workers tests c.around end → RunsFrom wanted c end
told_run wanted tests c end from told ends =
    let runs = subst (λ all. RunsTold all wanted.detail wanted.workers tests c.around end) (sym told) ends in
    inr (Ok tests, from, runs)

-- and where there is one of which it can't, that is told
pub untold_run : (status : ℕ) (wanted : Wanted) (tests : List Test) (c : Call) (end : LitEnd) → end ≡ untried status
    → NoHand c.around.hired → Rests c.around.out → TestsFrom c.searched wanted (Ok tests)
    → are_told wanted.detail tests ≡ false → TellsStop NotText status c.around.err → RunsFrom wanted c end
untold_run status wanted tests c end same nobody rests from untold told =
    let refuses : Refuses NotText c.around end = (
      nothing_ran status c.around end same nobody,
      rests,
      subst (λ n. TellsStop NotText n c.around.err) (sym (status_is status end same)) told,
    ) in
    let runs = subst (λ all. RunsTold all wanted.detail wanted.workers tests c.around end) (sym untold) refuses in
    inr (Ok tests, from, runs)

-- why no test is run
pub refused_run : (status : ℕ) (wanted : Wanted) (stop : LitStop) (c : Call) (end : LitEnd) → end ≡ untried status
    → NoHand c.around.hired → Rests c.around.out → TestsFrom c.searched wanted (Err stop)
    → TellsStop stop status c.around.err → RunsFrom wanted c end
refused_run status wanted stop c end same nobody rests from told = inr (
  Err stop,
  from,
  (
    nothing_ran status c.around end same nobody,
    rests,
    subst (λ n. TellsStop stop n c.around.err) (sym (status_is status end same)) told,
  ),
)

pub lacks_run : (status : ℕ) (wanted : Wanted) (c : Call) (end : LitEnd) → end ≡ untried status → NoHand c.around.hired
    → LacksMemory status c.around.out c.around.err → RunsFrom wanted c end
lacks_run status wanted c end same nobody lack =
    inl (
      nothing_ran status c.around end same nobody,
      subst (λ n. LacksMemory n c.around.out c.around.err) (sym (status_is status end same)) lack,
    )

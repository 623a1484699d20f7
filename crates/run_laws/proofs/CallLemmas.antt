-- Calls that ask for the same, but for the number of workers, end alike where each test is reported.
-- Idea: a call that ends with 0 or 1 and shows no names ran the tests that the tree and the words tell; so two of them ran the same,
-- and what is known of runs holds of them. The hard one is `ran_call`.
use Rattle.std.proofs.Common.{◌≡◌, ℕ, ◌≤◌, Bool, true, false, List, map, Some, Result, Ok, Err, sym, ap, ◌∙◌, subst, arith, inl, inr}
use Rattle.tt_outside.specs.declared.test_data.Test.{Test}
use Rattle.tt_outside.specs.declared.tree.Node.{Node}
use Rattle.tt_run.specs.Run.{Stream}
use Rattle.lit_dirs.specs.declared.fault.DiscoverFault.{DiscoverFault}
use Rattle.lit_dirs.specs.declared.fault.DiscoverFault.TheVariants.{Missing, PythonConfig, NoSuite, BadSuite, SuiteTooLarge, TooMany, TooManyItems, NoTests, TreeFault, NoMemory}
use Rattle.lit_find.specs.Found.{AreTests, Discovers}
use Rattle.lit_paths.specs.Paths.{joined, parts_of}
use Rattle.lit_words.specs.Asked.{Wanted, asked_by}
use Rattle.lit_tool.specs.Answer.{TellsStop, status_of}
use Rattle.lit_tool.specs.Kept.{kept_of}
use Rattle.lit_tool.specs.Run.{AskedEnds, Call, LitEnds, RunsTests, RunsTold, ShowsOrRuns, TestsFrom, TreeRun}
use Rattle.lit_tool.specs.declared.stop.LitStop.{LitStop}
use Rattle.lit_tool.specs.declared.stop.LitStop.TheVariants.{Words, Discovery, NoneSelected, NotText}
use Rattle.run_report.specs.Run.{Around, RunEnds, are_told}
use Rattle.run_report.specs.declared.ending.LitEnd.{LitEnd}
use Rattle.run_laws.proofs.ListLemmas.{one_list}
use Rattle.run_laws.proofs.WorkerLemmas.{ends_alike}
use Rattle.run_laws.specs.Calls.{IsOneAnswer, with_workers}

-- ---- a call that ends with 0 or 1

found_high : (fault : DiscoverFault) → status_of (Discovery fault) ≤ 1 → ⊥
found_high (Missing path) low = omega (arith, low)
found_high (PythonConfig path) low = omega (arith, low)
found_high (NoSuite path) low = omega (arith, low)
found_high (BadSuite path fault) low = omega (arith, low)
found_high (SuiteTooLarge path) low = omega (arith, low)
found_high TooMany low = omega (arith, low)
found_high TooManyItems low = omega (arith, low)
found_high NoTests low = omega (arith, low)
found_high TreeFault low = omega (arith, low)
found_high NoMemory low = omega (arith, low)

stop_high : (stop : LitStop) → status_of stop ≤ 1 → ⊥
stop_high (Words fault) low = omega (arith, low)
stop_high NoneSelected low = omega (arith, low)
stop_high NotText low = omega (arith, low)
stop_high (Discovery fault) low = found_high fault low

-- no stop was told
told_high : (stop : LitStop) (status : ℕ) (err : Stream) → TellsStop stop status err → status ≤ 1 → ⊥
told_high stop status err (inl (four, told)) low = omega (arith, four, low)
told_high stop status err (inr (inl (same, taken))) low = stop_high stop (subst (λ n. n ≤ 1) same low)
told_high stop status err (inr (inr (three, stopped))) low = omega (arith, three, low)

-- the tests that were run
pub record Ran (t : TreeRun) (wanted : Wanted) (a : Around) (end : LitEnd) : Type 0 where
  pub tests : List Test
  pub from : TestsFrom t wanted (Ok tests)
  pub ends : RunEnds wanted.detail wanted.workers tests a end

told_tests : (t : TreeRun) (wanted : Wanted) (tests : List Test) (all : Bool) (a : Around) (end : LitEnd)
    → TestsFrom t wanted (Ok tests) → RunsTold all wanted.detail wanted.workers tests a end → end.status ≤ 1 → Ran t wanted a end
told_tests t wanted tests true a end from runs low = record { tests = tests; from = from; ends = runs }
told_tests t wanted tests false a end from (nothing, rests, told) low = absurd (told_high NotText end.status a.err told low)

ran_tests : (t : TreeRun) (wanted : Wanted) (outcome : Result (List Test) LitStop) (a : Around) (end : LitEnd) → TestsFrom t wanted outcome
    → RunsTests wanted.detail wanted.workers outcome a end → end.status ≤ 1 → Ran t wanted a end
ran_tests t wanted (Ok tests) a end from runs low = told_tests t wanted tests (are_told wanted.detail tests) a end from runs low
ran_tests t wanted (Err stop) a end from (nothing, rests, told) low = absurd (told_high stop end.status a.err told low)

ran_asked : (t : TreeRun) (wanted : Wanted) (a : Around) (end : LitEnd) → AskedEnds (Ok wanted) t a end → wanted.show ≡ false
    → end.status ≤ 1 → Ran t wanted a end
ran_asked t wanted a end (outcome, from, ends) shows low =
    ran_tests t wanted outcome a end from
    (subst (λ show. ShowsOrRuns show wanted.detail wanted.workers outcome a end) shows ends) low

ran_call : (words : List (List ℕ)) (c : Call) (end : LitEnd) (wanted : Wanted) → asked_by words ≡ Ok wanted → wanted.show ≡ false
    → LitEnds words c end → end.status ≤ 1 → Ran c.searched wanted c.around end
ran_call words c end wanted asks shows (inl (nothing, (four, rests, told))) low = absurd (omega (arith, four, low))
ran_call words c end wanted asks shows (inr ends) low =
    ran_asked c.searched wanted c.around end (subst (λ asked. AskedEnds asked c.searched c.around end) asks ends) shows low

-- ---- its tests

-- all tests that were found, and of which some are kept
pub record Kept (nodes : List Node) (base : List ℕ) (wanted : Wanted) (tests : List Test) : Type 0 where
  pub all : List Test
  pub are : AreTests nodes (map (joined (parts_of base)) wanted.paths) all
  pub kept : Ok tests ≡ kept_of wanted all

kept_from : (t : TreeRun) (wanted : Wanted) (nodes : List Node) (tests : List Test) → t.nodes ≡ Some nodes → TestsFrom t wanted (Ok tests)
    → Kept nodes t.base wanted tests
kept_from t wanted nodes tests known (Ok all, searched, same) =
    let found = subst (λ known. Discovers known t.base wanted.paths (Ok all)) known searched.0 in
    record { all = all; are = found.1; kept = same }
kept_from t wanted nodes tests known (Err fault, searched, same) = absurd (let no = same in cc)

same_tests : (nodes : List Node) (base : List ℕ) (wanted : Wanted) (one other : List Test) → Kept nodes base wanted one
    → Kept nodes base wanted other → one ≡ other
same_tests nodes base wanted one other first second =
    let all = one_list nodes (map (joined (parts_of base)) wanted.paths) first.all second.all first.are second.are in
    let same : Ok one ≡ Ok other = first.kept ∙ ap (kept_of wanted) all ∙ sym second.kept in
    ap (λ (found : Result (List Test) LitStop). elim found [ Ok tests ↦ tests | Err stop ↦ one ]) same

-- ---- two calls

pub one_answer : (c d : Call) → IsOneAnswer c d
one_answer c d words others wanted workers nodes one other asks too shows known also base steady gave ends over low least =
    let first = ran_call words c one wanted asks shows ends low in
    let second = ran_call others d other (with_workers workers wanted) too shows over least in
    let mine = kept_from c.searched wanted nodes first.tests known first.from in
    let its = kept_from d.searched (with_workers workers wanted) nodes second.tests also second.from in
    let here = subst (λ path. Kept nodes path wanted second.tests) base (record { all = its.all; are = its.are; kept = its.kept }) in
    let same = same_tests nodes c.searched.base wanted first.tests second.tests mine here in
    ends_alike wanted.detail first.tests wanted.workers workers c.around d.around one other steady gave first.ends
    (subst (λ tests. RunEnds wanted.detail workers tests d.around other) (sym same) second.ends) low least

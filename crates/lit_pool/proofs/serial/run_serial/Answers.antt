-- The four ways out of a run: no room for a trial, a test that met want of memory, a trial that the desk refused, and the end of the
-- tests. Lemmas of RunLemmas give each; what is left here is which of the names holds what. The longest is the step to the next test
-- (`loop-test-preserved`), since the invariant has a field for each clause.
use Rattle.std.proofs.Common.{◌≡◌, ◌+◌, ◌++◌, ◌∷◌, ◌∙◌, [], length, ap, subst, arith}
use Rattle.std.proofs.lemmas.List.{length-append}
use Rattle.std.proofs.lemmas.List.Sums.{sum_by_push}
use Rattle.lit_test.specs.declared.trial.Trial.{Trial}
use Rattle.lit_pool.proofs.RunLemmas.{are_on, begun_on, counts_on, goes_on_test, put_on, stopped_alone, stopped_at}
use Rattle.lit_pool.proofs.serial.run_serial.Goals as goal

pub returns-then-is_err-clause-stopped : goal.returns-then-is_err-clause-stopped
returns-then-is_err-clause-stopped g c =
    rw c.stop.ensures (rw c.reserve.ensures.items (stopped_alone
    g.D.Desk.took g.D.Desk.kept _ _ c.loop-test.place _ _ _ c.loop-test.invariant.put c.loop-test.invariant.are))

pub returns-in_default-clause-stopped : goal.returns-in_default-clause-stopped
returns-in_default-clause-stopped g c =
    rw c.stop-in_default.ensures (rw c.reserve.ensures.items (stopped_alone g.D.Desk.took g.D.Desk.kept _ _ c.loop-test.place _ _ _ c.loop-test.invariant.put
    c.loop-test.invariant.are))

pub returns-in_default-clause-stop_begun : goal.returns-in_default-clause-stop_begun
returns-in_default-clause-stop_begun g c =
    let items = ap length c.as_slice-test-items.ensures in
    let none = length-append c.loop-test.trials.items [] in
    rw c.stop-in_default.ensures (rw c.reserve.ensures.items (record {
      count = c.loop-test.place + 1;
      begun = begun_on _ _ _ _ c.loop-test.invariant.begun c.run_test.ensures.begun;
      within = omega (arith, items, c.loop-test.invariant.place, c.loop-test-test.true);
      least = omega (arith, none, c.loop-test.invariant.long);
      most = omega (arith, c.loop-test.invariant.long);
    }))

pub returns-in_default-clause-goes_on : goal.returns-in_default-clause-goes_on
returns-in_default-clause-goes_on g c =
    let ran = c.run_test.ensures in
    goes_on_test g.R.Runner _ _ _ _ c.loop-test.invariant.goes_on ran.begun ran.room ran.gave ran.ready ran.later

pub returns-in-Err-clause-stopped : goal.returns-in-Err-clause-stopped
returns-in-Err-clause-stopped g c =
    let was = c.loop-test.invariant in
    let now = c.in-Ok.ensures in
    rw c.stop-in-Err.ensures (rw c.reserve.ensures.items (stopped_at
    g.D.Desk.took g.D.Desk.kept _ _ (c.loop-test.place + 1) _ _ _ was.put _ c.in-Err.why c.in-Ok.trial _ c.loop-test.place
    c.why_of.ensures
    (are_on _ _ _ _ _ _ _ _ _ c.as_slice-test-items.ensures was.place c.loop-test-test.true c.test-item.is was.long
    was.goes_on.gave was.are now.same now.trial now.given)
    was.long c.in-Err.ensures.kept))

pub returns-in-Err-clause-stop_begun : goal.returns-in-Err-clause-stop_begun
returns-in-Err-clause-stop_begun g c =
    let items = ap length c.as_slice-test-items.ensures in
    let one = length-append c.loop-test.trials.items (c.in-Ok.trial ∷ []) in
    rw c.stop-in-Err.ensures (rw c.reserve.ensures.items (record {
      count = c.loop-test.place + 1;
      begun = begun_on _ _ _ _ c.loop-test.invariant.begun c.run_test.ensures.begun;
      within = omega (arith, items, c.loop-test.invariant.place, c.loop-test-test.true);
      least = omega (arith, one, c.loop-test.invariant.long);
      most = omega (arith, c.loop-test.invariant.long);
    }))

pub returns-in-Err-clause-stop_counts : goal.returns-in-Err-clause-stop_counts
returns-in-Err-clause-stop_counts g c =
    let was = c.loop-test.invariant in
    let now = c.in-Ok.ensures in
    let counts = counts_on g.R.Runner _ _ _ c.loop-test.trials.items c.in-Ok.trial was.counts was.goes_on.later c.run_test.ensures.later
    now.asked now.broken now.calm in
    rw c.stop-in-Err.ensures (rw c.reserve.ensures.items (record { asked = counts.asked; broken = counts.broken }))

pub returns-in-Err-clause-goes_on : goal.returns-in-Err-clause-goes_on
returns-in-Err-clause-goes_on g c =
    let ran = c.run_test.ensures in
    goes_on_test g.R.Runner _ _ _ _ c.loop-test.invariant.goes_on ran.begun ran.room ran.gave ran.ready ran.later

pub loop-test-preserved : goal.loop-test-preserved
loop-test-preserved g c =
    let xs = c.loop-test.trials.items in
    let x = c.in-Ok.trial in
    let was = c.loop-test.invariant in
    let ran = c.run_test.ensures in
    let now = c.in-Ok.ensures in
    let here : c.loop-test.place ≡ 0 + length xs = omega (arith, was.long) in
    let all : c.push_reserved.new.self.items ≡ xs ++ x ∷ [] =
    c.push_reserved.ensures.items ∙ ap (λ ts. ts ++ x ∷ []) c.reserve.ensures.items in
    rw all (record {
      place = ap (λ n. n + 1) was.place;
      long = (let n = length-append xs (x ∷ []) in omega (arith, n, was.long));
      are = are_on _ _ _ _ _ _ xs _ x c.as_slice-test-items.ensures was.place c.loop-test-test.true c.test-item.is was.long
          was.goes_on.gave was.are now.same now.trial now.given;
      put = put_on g.D.Desk.took _ _ _ 0 xs x was.put
          (subst (λ n. g.D.Desk.took c.loop-test.desk n x c.put.new.self) here c.in_default-put.ensures.took);
      begun = begun_on _ _ _ _ was.begun ran.begun;
      room = omega (arith, was.room, ran.room);
      few = omega (arith, sum_by_push (λ (t : Trial). length t.entries) xs x, was.few, now.few);
      counts = counts_on g.R.Runner _ _ _ xs x was.counts was.goes_on.later ran.later now.asked now.broken now.calm;
      goes_on = goes_on_test g.R.Runner _ _ _ _ was.goes_on ran.begun ran.room ran.gave ran.ready ran.later;
    })

-- The loop over the matches of a directive: those before are counted as the definition has it, and what they bound is bound.
-- Each turn finds the next one from the end of the last, or its fault ends the loop.
-- The long goal is `loop-done-preserved`.
use Rattle.std.proofs.Common.{◌≡◌, ◌-◌, IfOk, length, sym, ◌∙◌, subst, arith}
use Rattle.std.proofs.Math.Nat.{le_refl}
use Rattle.check_group.specs.Alone.{came, counted}
use Rattle.check_group.specs.Continues.{Continues}
use Rattle.check_group.specs.Matches.{Fits}
use Rattle.check_group.specs.Tries.{AreFor}
use Rattle.check_group.proofs.ContinuesLemmas.{comes_told, continues_ready, continues_whole}
use Rattle.check_group.proofs.CountLemmas.{count_on, count_fails, count_ends}
use Rattle.check_group.proofs.alone.match_alone.Goals as goal

pub loop-done-init : goal.loop-done-init
loop-done-init g c =
    let a = c.args in
    let whole = came a.text.now a.vars.now a.place a.check.now in
    let all : a.check.now.demand.times ≡ a.check.now.demand.times - 0 = omega arith in
    record {
      behind = le_refl a.place;
      same = c.of-tries.ensures a.vars.now;
      reached = (le_refl a.place, c.requires.here, c.requires.here);
      rest = subst (λ left. Continues whole (counted a.text.now a.check.now left 0 a.vars.now a.place a.place) a.vars.now a.vars.now)
          all (continues_whole whole a.vars.now);
    }

pub met-requires-clause-ready : goal.met-requires-clause-ready
met-requires-clause-ready g c =
    continues_ready _ _ c.args.vars.now c.loop-done.vars c.args.check.now c.loop-done.invariant.rest c.requires.ready

pub returns-in-Err-clause-value : goal.returns-in-Err-clause-value
returns-in-Err-clause-value g c =
    let a = c.args in
    let l = c.loop-done in
    comes_told _ a.vars.now l.vars c.fault.result _ c.fault.ensures
    (count_fails a.text.now a.check.now a.check.now.demand.times l.done l.vars l.reached.from l.reached.to _ a.vars.now
    l.invariant.rest c.in-Err.kind c.loop-done-test.true (sym c.in-Err.is ∙ c.in_ok-m.ensures.value))

pub loop-done-preserved : goal.loop-done-preserved
loop-done-preserved g c =
    let a = c.args in
    let l = c.loop-done in
    let m = c.in-Ok.m in
    let fits : Fits l.vars l.reached.to (length a.text.now) m =
    subst (λ met. IfOk met (Fits l.vars l.reached.to (length a.text.now))) c.in-Ok.is c.in_ok-m.ensures.fits in
    let lies = l.invariant.reached in
    record {
      behind = omega (arith, l.invariant.behind, fits.low, m.span.ordered);
      same = subst (AreFor c.behind-tries.result a.check.now) (sym c.bind.ensures) (c.behind-tries.ensures a.check.now l.vars c.met.ensures.same);
      reached = (
        c.began_at.ensures.low a.place (omega (arith, l.invariant.behind, fits.low)) lies.0,
        c.began_at.ensures.high (length a.text.now) (omega (arith, fits.high, m.span.ordered)) lies.1,
        fits.high,
      );
      rest = count_on a.text.now a.check.now a.check.now.demand.times l.done l.vars l.reached.from l.reached.to _ a.vars.now
          l.invariant.rest m _ _ c.loop-done-test.true (sym c.in-Ok.is ∙ c.in_ok-m.ensures.value) c.bind.ensures
          c.began_at.ensures.value;
    }

pub returns-clause-value : goal.returns-clause-value
returns-clause-value g c =
    let a = c.args in
    let l = c.loop-done in
    count_ends a.text.now a.check.now a.check.now.demand.times l.done l.vars l.reached.from l.reached.to _ a.vars.now
    l.invariant.rest c.loop-done-test.false

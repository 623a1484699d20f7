-- The loop over the tries of a member: each begins behind the match that shared a byte with one of the group's.
-- A try that is free ends it, and so does none; what is left of the text is the measure.
-- The long goal is `loop-tries-preserved`, a match that overlaps.
use Rattle.std.proofs.Common.{◌≤◌, IfOk, length, sym, ◌∙◌, subst, arith, take}
use Rattle.std.proofs.Math.Nat.{le_trans}
use Rattle.check_group.specs.Matches.{Fits, looked}
use Rattle.check_group.proofs.TriedLemmas.{ends_later, lowest_drop, tried_free, tried_on}
use Rattle.check_group.proofs.group.place_member.Goals as goal

pub loop-tries-init : goal.loop-tries-init
loop-tries-init g c = record {
  behind = c.requires.later;
  same = tt;
  within = c.requires.here;
  at = omega arith;
  passed = λ k d low. absurd (omega (arith, low));
  chain = c.requires.tried;
}

pub returns-in-None-clause-free : goal.returns-in-None-clause-free
returns-in-None-clause-free g c =
    lowest_drop c.in-Ok.m.span c.passed-at.result c.args.ranges.now.items c.passed-at.ensures.before
    ∙ sym c.in-None.ensures.value

pub returns-in-None-clause-value : goal.returns-in-None-clause-value
returns-in-None-clause-value g c =
    let a = c.args in
    let chain = c.loop-tries.invariant.chain in
    tried_free (looked a.context.now.text.now a.context.now.vars.now a.check.now 0) a.ranges.now.items c.loop-tries.from chain.0 c.passed-at.result c.in-Ok.m
    (sym c.in-Ok.is ∙ c.in_ok-kind.ensures.value) c.passed-at.ensures.before
    c.in-None.ensures.value
    ∙ chain.2

pub loop-tries-smaller : goal.loop-tries-smaller
loop-tries-smaller g c =
    let a = c.args in
    let m = c.in-Ok.m in
    let range = c.in-Some.range in
    let fits : Fits a.context.now.vars.now c.loop-tries.from (length a.context.now.text.now) m =
    subst (λ met. IfOk met (Fits a.context.now.vars.now c.loop-tries.from (length a.context.now.text.now))) c.in-Ok.is c.in_ok-kind.ensures.fits in
    let ends : range.to ≤ length a.context.now.text.now =
    c.in-Some.ensures.within (length a.context.now.text.now) c.requires.ranges in
    omega (arith, fits.low, c.in-Some.ensures.behind, ends)

pub loop-tries-preserved : goal.loop-tries-preserved
loop-tries-preserved g c =
    let a = c.args in
    let m = c.in-Ok.m in
    let range = c.in-Some.range in
    let chain = c.loop-tries.invariant.chain in
    let fits : Fits a.context.now.vars.now c.loop-tries.from (length a.context.now.text.now) m =
    subst (λ met. IfOk met (Fits a.context.now.vars.now c.loop-tries.from (length a.context.now.text.now))) c.in-Ok.is c.in_ok-kind.ensures.fits in
    let ends : range.to ≤ length a.context.now.text.now =
    c.in-Some.ensures.within (length a.context.now.text.now) c.requires.ranges in
    let on = tried_on (looked a.context.now.text.now a.context.now.vars.now a.check.now 0) a.ranges.now.items c.loop-tries.from chain.0 c.passed-at.result
    (length a.context.now.text.now) m range (sym c.in-Ok.is ∙ c.in_ok-kind.ensures.value) c.passed-at.ensures.before
    c.in-Some.ensures.value (omega (arith, fits.low, c.in-Some.ensures.behind)) ends chain.1 in
    record {
      behind = omega (arith, c.loop-tries.invariant.behind, fits.low, c.in-Some.ensures.behind);
      same = c.look_near.ensures.same;
      within = ends;
      at = c.passed-at.ensures.within;
      passed = ends_later m.span.from range.to (take c.passed-at.result a.ranges.now.items) (omega (arith, c.in-Some.ensures.behind))
          c.passed-at.ensures.before;
      chain = (on.0, on.1, on.2 ∙ chain.2);
    }

pub look_near-requires-clause-nowhere : goal.look_near-requires-clause-nowhere
look_near-requires-clause-nowhere g c = λ bytes is at low high there.
    c.requires.nowhere bytes is at (le_trans c.loop-tries.invariant.behind low) high there

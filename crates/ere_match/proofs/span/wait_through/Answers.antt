use Rattle.std.proofs.Common.{◌≡◌, ◌∙◌, length, sym, subst, take, arith}
use Rattle.std.proofs.lemmas.List.{take_more}
use Rattle.ere_auto.specs.Seen.{HasSeen}
use Rattle.ere_auto.specs.State.{state_of}
use Rattle.ere_match.proofs.span.wait_through.Goals as goal

pub loop-index-preserved : goal.loop-index-preserved
loop-index-preserved g c =
    let s = c.args.slice.now in
    let i = c.loop-index.index in
    let e = c.advance-waited.ensures in
    let held = c.loop-index.invariant in
    record {
      at = omega (arith, e.shown, held.at);
      waited = omega (arith, c.waits.ensures.0 c.if-not-waits.false, held.at, held.begin);
      steps = omega (arith, e.counted, held.steps);
      begin = e.begin ∙ held.begin;
      seen = λ t seen.
          subst (HasSeen (state_of c.advance-waited.new.self) t) (sym (take_more s i 0 (omega arith)))
          (e.seen t (take i s) (held.seen t seen));
    }

pub returns-clause-seen : goal.returns-clause-seen
returns-clause-seen g c = λ t seen.
    let all : c.loop-index.index ≡ length c.args.slice.now = omega arith in
    subst (λ n. HasSeen (state_of c.loop-index.automaton) t (take n c.args.slice.now)) all
    (c.loop-index.invariant.seen t seen)

use Rattle.std.proofs.Common.{◌∙◌, ◌+◌, ◌-◌, refl, sym, subst, take, drop, arith}
use Rattle.std.proofs.lemmas.List.{take_more}
use Rattle.ere_auto.specs.Seen.{HasSeen, HasFound}
use Rattle.ere_auto.specs.State.{state_of}
use Rattle.ere_auto.proofs.SeenLemmas.{split_at}
use Rattle.ere_match.proofs.ShownLemmas.{finds_early, finds_all, take_whole}
use Rattle.ere_match.proofs.span.find_span.Goals as goal

pub returns-then-not-advance-clause-found : goal.returns-then-not-advance-clause-found
returns-then-not-advance-clause-found g c = λ t seen.
    let s = c.args.slice.now in
    let i = c.loop-index.index in
    let a = state_of c.advance.new.self in
    let e = c.if-not-advance.ensures in
    let known = e.known refl t (take i s) (drop (i + 1) s) (c.loop-index.invariant.seen t seen) in
    finds_early a t s c.args.automaton.now.begin (c.advance.new.steps - c.args.steps.now) c.span.result
    (subst (HasFound a t) (split_at s i (omega arith)) known.0) known.1 c.span.ensures.value
    (e.begin ∙ c.loop-index.invariant.begin)
    (omega (arith, e.shown, e.counted, c.loop-index.invariant.at, c.loop-index.invariant.steps))
    (omega (arith, e.counted, c.loop-index.invariant.steps))

pub loop-index-preserved : goal.loop-index-preserved
loop-index-preserved g c =
    let s = c.args.slice.now in
    let i = c.loop-index.index in
    let e = c.if-not-advance.ensures in
    record {
      at = omega (arith, e.shown, c.loop-index.invariant.at);
      steps = omega (arith, e.counted, c.loop-index.invariant.steps);
      begin = e.begin ∙ c.loop-index.invariant.begin;
      seen = λ t seen.
          subst (HasSeen (state_of c.advance.new.self) t) (sym (take_more s i 0 (omega arith)))
          (e.seen t (take i s) (c.loop-index.invariant.seen t seen));
    }

pub returns-clause-found : goal.returns-clause-found
returns-clause-found g c = λ t seen.
    let s = c.args.slice.now in
    let a = state_of c.advance-ended.new.self in
    let e = c.advance-ended.ensures in
    let whole = take_whole s c.loop-index.index (omega arith) in
    finds_all a t s c.args.automaton.now.begin (c.advance-ended.new.steps - c.args.steps.now) c.span-2.result
    (e.ended.1 t s (subst (HasSeen (state_of c.loop-index.automaton) t) whole (c.loop-index.invariant.seen t seen)))
    c.span-2.ensures.value (e.begin ∙ c.loop-index.invariant.begin)
    (omega (arith, e.shown, e.counted, c.loop-index.invariant.at, c.loop-index.invariant.steps))
    (omega (arith, e.counted, c.loop-index.invariant.steps))

pub returns-clause-expression : goal.returns-clause-expression
returns-clause-expression g c = λ t seen.
    let s = c.args.slice.now in
    let whole = take_whole s c.loop-index.index (omega arith) in
    (c.advance-ended.ensures.ended.1 t s
    (subst (HasSeen (state_of c.loop-index.automaton) t) whole (c.loop-index.invariant.seen t seen))).expression

pub returns-then-not-advance-clause-expression : goal.returns-then-not-advance-clause-expression
returns-then-not-advance-clause-expression g c = λ t seen.
    let s = c.args.slice.now in
    let i = c.loop-index.index in
    (c.if-not-advance.ensures.known refl t (take i s) (drop (i + 1) s) (c.loop-index.invariant.seen t seen)).0.expression

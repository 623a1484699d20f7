use Rattle.std.proofs.Common.{◌∙◌, ◌+◌, refl, sym, subst, take, drop, take_all, arith}
use Rattle.std.proofs.lemmas.List.{take_more}
use Rattle.ere_auto.specs.Seen.{HasSeen, HasFound}
use Rattle.ere_auto.specs.Span.{IsSpan}
use Rattle.ere_auto.specs.State.{state_of}
use Rattle.ere_auto.proofs.SeenLemmas.{split_at}
use Rattle.ere_auto.proofs.auto.Auto.span_from.Goals as goal

pub loop-index-preserved : goal.loop-index-preserved
loop-index-preserved c =
    let s = c.args.slice.now in
    let i = c.loop-index.index in
    let e = c.if-not-show.ensures in
    record {
      at = omega (arith, e.shown, c.loop-index.invariant.at);
      begin = e.begin ∙ c.loop-index.invariant.begin;
      seen = λ t of.
          subst (HasSeen (state_of c.show.new.self) t) (sym (take_more s i 0 (omega arith)))
          (e.seen t (take i s) (c.loop-index.invariant.seen t of));
    }

pub returns-then-not-show-clause-found : goal.returns-then-not-show-clause-found
returns-then-not-show-clause-found c = λ t of.
    let s = c.args.slice.now in
    let i = c.loop-index.index in
    let e = c.if-not-show.ensures in
    let known = e.known refl t (take i s) (drop (i + 1) s) (c.loop-index.invariant.seen t of) in
    subst (λ b. IsSpan s t b c.show.new.self.best) (e.begin ∙ c.loop-index.invariant.begin)
    (subst (HasFound (state_of c.show.new.self) t) (split_at s i (omega arith)) known.0).span

pub returns-then-not-show-clause-expression : goal.returns-then-not-show-clause-expression
returns-then-not-show-clause-expression c = λ t of.
    let s = c.args.slice.now in
    let i = c.loop-index.index in
    (c.if-not-show.ensures.known refl t (take i s) (drop (i + 1) s) (c.loop-index.invariant.seen t of)).0.expression

pub returns-clause-found : goal.returns-clause-found
returns-clause-found c = λ t of.
    let s = c.args.slice.now in
    let whole = take_all c.loop-index.index s (omega arith) in
    let found = c.finish.ensures.ended t s
    (subst (HasSeen (state_of c.loop-index.self) t) whole (c.loop-index.invariant.seen t of)) in
    subst (λ b. IsSpan s t b c.finish.new.self.best) (c.finish.ensures.begin ∙ c.loop-index.invariant.begin) found.span

pub returns-clause-expression : goal.returns-clause-expression
returns-clause-expression c = λ t of.
    let s = c.args.slice.now in
    let whole = take_all c.loop-index.index s (omega arith) in
    (c.finish.ensures.ended t s
    (subst (HasSeen (state_of c.loop-index.self) t) whole (c.loop-index.invariant.seen t of))).expression

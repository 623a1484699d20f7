use Rattle.std.proofs.Common.{◌≡◌, None, drop, length, sym, ap, subst, ◌∙◌, arith}
use Rattle.check_lines.specs.Decision.{MarkLies, decided_at}
use Rattle.check_lines.proofs.CanonLemmas.{rest_of}
use Rattle.check_lines.proofs.DecisionLemmas.{behind_next, decided_here, decided_later, decided_never, mark_lies_from, least_here, none_so_far}
use Rattle.check_lines.proofs.decision.decide.Goals as goal

pub returns-in-Some : goal.returns-in-Some
returns-in-Some c =
    let checks = c.args.prefixes.now.checks.prefixes.now in
    let comments = c.args.prefixes.now.comments.prefixes.now in
    let line = c.args.line.now in
    let at = c.loop-at.at in
    let behind = c.loop-at.behind_word in
    let here = ap (decided_at checks comments behind at) (sym (rest_of line at)) ∙ sym c.decided_at.ensures.value ∙ c.in-Some.is in
    record {
      least = least_here checks comments line behind at c.loop-at-test.true c.loop-at.invariant.behind c.loop-at.invariant.none
          c.in-Some.decision here;
      value = sym (decided_here checks comments behind line at c.in-Some.decision c.loop-at-test.true here) ∙ c.loop-at.invariant.same;
      lies = subst (λ k. MarkLies (length checks) line k c.in-Some.decision.mark) (sym c.in-Some.ensures.lies.0)
          (mark_lies_from (length checks) line _ at c.in-Some.decision.mark (rest_of line at) c.loop-at-test.true
          c.in-Some.ensures.lies.1);
    }

pub loop-at-preserved : goal.loop-at-preserved
loop-at-preserved c =
    let checks = c.args.prefixes.now.checks.prefixes.now in
    let comments = c.args.prefixes.now.comments.prefixes.now in
    let line = c.args.line.now in
    let at = c.loop-at.at in
    let behind = c.loop-at.behind_word in
    let none : decided_at checks comments behind at (drop at line) ≡ None =
    ap (decided_at checks comments behind at) (sym (rest_of line at)) ∙ sym c.decided_at.ensures.value ∙ c.in-None.is in
    record {
      behind = c.is_word-behind_word.ensures ∙ behind_next checks comments line at;
      none = none_so_far checks comments line behind at c.loop-at-test.true c.loop-at.invariant.behind c.loop-at.invariant.none none;
      same = rw c.is_word-behind_word.ensures
          (sym (decided_later checks comments behind line at c.loop-at-test.true none) ∙ c.loop-at.invariant.same);
    }

pub returns-clause-value : goal.returns-clause-value
returns-clause-value c = sym (decided_never c.args.prefixes.now.checks.prefixes.now c.args.prefixes.now.comments.prefixes.now c.loop-at.behind_word c.args.line.now c.loop-at.at c.loop-at-test.false)
    ∙ c.loop-at.invariant.same

pub returns-clause-least : goal.returns-clause-least
returns-clause-least c = λ at mark below. c.loop-at.invariant.none at mark (omega (arith, below, c.loop-at-test.false))

use Rattle.std.proofs.Common.{sym, ap, ◌∙◌}
use Rattle.make_checks.proofs.TrimLemmas.{trimmed_other}
use Rattle.make_checks.specs.Made.{trimmed}
use Rattle.make_checks.proofs.lines.trimmed.Goals as goal

pub returns-then-last-ne10-clause-value : goal.returns-then-last-ne10-clause-value
returns-then-last-ne10-clause-value c =
    let is = c.in-Some.ensures.cases.0 in
    is ∙ sym (trimmed_other c.in-Some.front.now c.in-Some.last.now c.if-last-ne10.true) ∙ ap trimmed (sym is) ∙ c.loop-last.invariant.same

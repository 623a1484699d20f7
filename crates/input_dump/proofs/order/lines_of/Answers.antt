use Rattle.std.proofs.Common.{◌≤◌, length, ◌∙◌, subst, sym, arith}
use denote.Ref.{Bor}
use Rattle.input_dump.specs.declared.marking.Mark.{Mark}
use Rattle.input_dump.proofs.BeginLemmas.{next_mark, one_more_line}
use Rattle.input_dump.proofs.order.lines_of.Goals as goal

pub line_behind-last-requires-clause-ordered : goal.line_behind-last-requires-clause-ordered
line_behind-last-requires-clause-ordered c =
    let l = c.loop-mark in
    (next_mark c.args.order.now l.mark-index l.from c.mark-item.result (omega arith) c.mark-item.is l.invariant.later l.invariant.ascending).low

pub loop-mark-preserved : goal.loop-mark-preserved
loop-mark-preserved c =
    let l = c.loop-mark in
    let next = next_mark c.args.order.now l.mark-index l.from c.mark-item.result (omega arith) c.mark-item.is l.invariant.later l.invariant.ascending in
    let within =
    subst (λ (mark : Bor Mark). mark.now.at ≤ length c.args.text.now) (sym c.mark-item.is)
    (c.requires.within l.mark-index c.mark-item.result (omega arith)) in
    let lines = c.in_ok-push.ensures.items
    ∙ one_more_line c.args.text.now c.args.order.now l.mark-index c.mark-item.result (omega arith) c.mark-item.is l.all.items
    c.line_behind-last.result l.invariant.lines c.line_behind-last.ensures in
    record { within = within; lines = lines; known = c.line_behind-last.ensures; later = next.later; ascending = next.ascending }

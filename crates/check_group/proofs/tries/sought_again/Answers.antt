use Rattle.pattern_parse.specs.PieceView.{items_view}
use Rattle.pattern_scan.proofs.NamesLemmas.{answers_placed}
use Rattle.pattern_scan.proofs.SeekLemmas.{answer_is, ready_seeks}
use Rattle.check_group.proofs.tries.sought_again.Goals as goal

pub returns-clause-named : goal.returns-clause-named
returns-clause-named g c =
    let a = c.args in
    let check = a.check.now in
    let same = ready_seeks a.ready.now check.pattern a.context.now.vars.now check.line a.context.now.text.now a.from c.requires.prepared in
    answers_placed a.context.now.vars.now check.pattern.fold a.context.now.text.now a.from _ check.pattern.frame (items_view check.pattern.pieces)
    c.seek.result c.requires.ready.placed (answer_is c.seek.result _ _ same c.seek.ensures.value)

use Rattle.std.proofs.Common.{ℕ, ◌+◌, List, Some, drop, sym, subst, arith}
use Rattle.std.proofs.lemmas.List.{get_or-drop}
use Rattle.ere_match.proofs.LineLemmas.{may_lie_in}
use Rattle.ere_match.specs.Filter.{MayLie}
use Rattle.ere_match.specs.Line.{EndsBy}
use Rattle.ere_match.specs.declared.filter.Try.{Try}
use Rattle.ere_tree.specs.View.{view}
use Rattle.ere_match.proofs.filter.try_at.Goals as goal

pub told_at-requires-clause-lies : goal.told_at-requires-clause-lies
told_at-requires-clause-lies c =
    let one = c.args.one in
    let s = drop one.from c.args.text.now in
    let t = view c.args.ere.now in
    let free = view c.args.free.now in
    let ends = subst (λ (x : List ℕ). EndsBy x free one.span.from c.args.line.now.high c.in_ok-to.to) c.split_at.ensures.back
    c.in_ok-to.ensures in
    subst (λ (o : Try). MayLie (drop o.from c.args.text.now) t (Some o.span)) (sym c.up_to.ensures)
    (may_lie_in s t free one.span.from c.in_ok-to.to c.args.line.now (λ i low. omega (arith, c.type_inv.text (one.from + i), get_or-drop one.from c.args.text.now i 0)) c.requires.spans c.requires.line
    c.requires.before ends)

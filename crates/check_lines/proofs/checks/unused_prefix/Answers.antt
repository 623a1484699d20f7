use Rattle.std.proofs.Common.{◌<◌, ◌∙◌, ap, arith, not, sym}
use Rattle.std.specs.List.{position_from}
use Rattle.check_lines.proofs.UnusedLemmas.{opened, unused_is}
use Rattle.check_lines.proofs.checks.unused_prefix.Goals as goal

pub returns : goal.returns
returns c =
    let several : 1 < c.args.count = omega (arith, c.if-count-le1.false) in
    c.first_unset.ensures ∙ ap (position_from not 0) c.as_slice.ensures.value
    ∙ unused_is c.args.directives.now c.loop-one.used.items c.loop-one.one-index c.args.count c.loop-one-test.false
    c.loop-one.invariant.long c.loop-one.invariant.are
    ∙ sym (opened c.args.allow_unused c.args.count c.args.directives.now c.if-allow_unused.false several)

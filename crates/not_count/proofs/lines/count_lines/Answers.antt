use Rattle.std.proofs.Common.{◌++◌, ◌∙◌, take, arith, length-append}
use Rattle.std.proofs.lemmas.List.{length-take}
use Rattle.std.proofs.KnownBytes.{Consumes-trans}
use Rattle.not_count.proofs.LinesLemmas.{lines-append}
use Rattle.not_count.proofs.lines.count_lines.Goals as goal

pub returns-then-taken-gt-LIMIT-clause-counted : goal.returns-then-taken-gt-LIMIT-clause-counted
returns-then-taken-gt-LIMIT-clause-counted g c =
    let kept = c.loop-count.invariant in
    let more = take c.in-Ok.count c.read.new.buf in (
      (
        kept.0 ++ more,
        Consumes-trans _ _ _ kept.0 more kept.1 c.in-Ok.ensures.bytes.0,
        omega (arith, length-append kept.0 more, c.in-Ok.ensures.bound, c.read.auto.buf, kept.2, kept.3, length-take c.min-want.result c.loop-count.buffer),
      ),
      c.in-Ok.ensures.cause.calm ∙ kept.6,
    )

pub returns-then-taken-gt-LIMIT-clause-taken : goal.returns-then-taken-gt-LIMIT-clause-taken
returns-then-taken-gt-LIMIT-clause-taken g c =
    let kept = c.loop-count.invariant in
    let more = take c.in-Ok.count c.read.new.buf in (
      kept.0 ++ more,
      Consumes-trans _ _ _ kept.0 more kept.1 c.in-Ok.ensures.bytes.0,
      omega (arith, length-append kept.0 more, c.in-Ok.ensures.bound, c.read.auto.buf, kept.2, kept.3, length-take c.min-want.result c.loop-count.buffer),
    )

pub loop-count-preserved : goal.loop-count-preserved
loop-count-preserved g c =
    let kept = c.loop-count.invariant in
    let more = take c.in-Ok.count c.read.new.buf in
    let counted = c.count_of.ensures in (
      kept.0 ++ more,
      Consumes-trans _ _ _ kept.0 more kept.1 c.in-Ok.ensures.bytes.0,
      omega (arith, length-append kept.0 more, c.in-Ok.ensures.bound, kept.2),
      omega arith,
      omega (arith, lines-append kept.0 more, counted.value, kept.4),
      omega (arith, counted.within, c.in-Ok.ensures.bound, kept.5),
      c.in-Ok.ensures.cause.calm ∙ kept.6,
      λ steady. (c.in-Ok.ensures.steady (kept.7 steady)).1,
    )

use Rattle.std.proofs.Common.{◌+◌, min, length, ap, ◌∙◌, arith}
use Rattle.lit_paths.proofs.CutLemmas.{behind_part}
use Rattle.lit_paths.proofs.writing.behind_path.Goals as goal

pub loop-part-preserved : goal.loop-part-preserved
loop-part-preserved c = λ rest is.
    behind_part c.args.path.now c.loop-part.part-index c.part-item.result c.loop-part.rest.now rest c.min.result
    (omega arith) c.part-item.is (c.loop-part.invariant rest is)
    (c.min.ensures ∙ ap (λ part. min (length c.loop-part.rest.now) (length part + 1)) c.as_slice.ensures)

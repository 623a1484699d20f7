use Rattle.std.proofs.Common.{◌∙◌, bit_or, eqb}
use Rattle.std.specs.Simd.Lanes.{zip2}
use Rattle.check_lines.proofs.ChunkLemmas.{lanes_or}
use Rattle.check_lines.proofs.chunk.blanks.Goals as goal

pub returns : goal.returns
returns c =
    (λ i. zip2 bit_or (c.equal_to.ensures i) (c.equal_to-2.ensures i))
    ∙ lanes_or (λ byte. eqb byte 32) (λ byte. eqb byte 9) c.args.bytes

use Rattle.std.proofs.Common.{◌≡◌, ◌∙◌, ap, bit_and, map, not, replicate, sym}
use Rattle.std.specs.Simd.Lanes.{zip2}
use Rattle.std.proofs.lemmas.Simd.{splat_is_map}
use Rattle.check_lines.specs.Canonical.{is_blank}
use Rattle.check_lines.specs.Chunk.{lane}
use Rattle.check_lines.proofs.ChunkLemmas.{lanes_and}
use Rattle.check_lines.proofs.chunk.joined.Goals.{then-strict, else-strict}
use Rattle.check_lines.proofs.chunk.joined.Goals as goal

pub returns : goal.returns
returns c =
    let bytes = c.args.bytes in
    let strict = c.args.strict in
    let counted : c.if-strict.result ≡ lane (not strict) = elim c.if-strict.branch [
      | then-strict w ↦ w.result-is ∙ ap (λ b. lane (not b)) (sym w.if-strict.true)
      | else-strict w ↦ w.result-is ∙ ap (λ b. lane (not b)) (sym w.if-strict.false)
    ] in
    (λ i. zip2 bit_and (replicate 16 (counted i)) (c.blanks.ensures i))
    ∙ ap (λ l. zip2 bit_and l (map (λ byte. lane (is_blank byte)) bytes))
    (splat_is_map bytes 16 (lane (not strict)) c.fits-bytes.0)
    ∙ lanes_and (λ _. not strict) is_blank bytes

use Rattle.std.proofs.Common.{◌∙◌, ℕ, Bool, eqb, map, replicate}
use Rattle.std.specs.Simd.Lanes.{sel_l}
use Rattle.std.proofs.lemmas.Simd.{splat_is_map}
use Rattle.check_lines.proofs.ChunkLemmas.{chosen, sel_maps}
use Rattle.check_lines.proofs.chunk.equal_to.Goals as goal

pub returns : goal.returns
returns c =
    let bytes = c.args.bytes in
    let long = c.fits-bytes.0 in
    let same : ℕ → Bool = λ byte. eqb byte c.args.byte in
    chosen bytes 16 c.args.byte (replicate 16 255) (replicate 16 0) long
    ∙ (λ i. sel_l (map same bytes) (splat_is_map bytes 16 255 long i) (splat_is_map bytes 16 0 long i))
    ∙ sel_maps same (λ _. 255) (λ _. 0) bytes

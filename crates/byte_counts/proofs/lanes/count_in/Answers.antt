use Rattle.std.proofs.Common.{◌≡◌, ◌∙◌, drop, eqb, length, length-drop, take, ap, w8, arith}
use Rattle.std.proofs.lemmas.List.{length-take}
use Rattle.std.proofs.lemmas.Simd.{bitmask_splat, ones-mask_l}
use Rattle.std.specs.Prelude.{count_ones}
use Rattle.byte_counts.specs.Counts.{is_byte}
use Rattle.byte_counts.proofs.CountLemmas.{count_at_most}
use Rattle.byte_counts.proofs.lanes.count_in.Goals as goal

pub returns-clause-value : goal.returns-clause-value
returns-clause-value c =
    let bytes = take 64 (drop c.args.at c.args.text.now) in
    let long : length bytes ≡ 64 =
    omega (arith, length-take 64 (drop c.args.at c.args.text.now), length-drop c.args.at c.args.text.now, c.requires) in
    ap count_ones (bitmask_splat w8 eqb bytes 64 c.args.byte long (omega arith)) ∙ ones-mask_l (is_byte c.args.byte) bytes

pub returns-clause-few : goal.returns-clause-few
returns-clause-few c =
    let bytes = take 64 (drop c.args.at c.args.text.now) in
    let long : length bytes ≡ 64 =
    omega (arith, length-take 64 (drop c.args.at c.args.text.now), length-drop c.args.at c.args.text.now, c.requires) in
    omega (arith, returns-clause-value c, count_at_most c.args.byte bytes, long)

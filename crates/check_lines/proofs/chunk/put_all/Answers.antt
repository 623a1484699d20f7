use Rattle.std.proofs.Common.{◌≡◌, ◌+◌, ◌-◌, length, arith, ap}
use Rattle.check_lines.proofs.CanonLemmas.{put_behind}
use Rattle.check_lines.proofs.chunk.put_all.Goals as goal

pub returns-clause-rest : goal.returns-clause-rest
returns-clause-rest g c =
    let count : c.args.done + g.row.N - c.args.done ≡ g.row.N = omega arith in
    let long : g.row.N ≡ length c.copy_from_slice.new.self =
    omega (arith, ap length c.copy_from_slice.ensures.after, c.copy_from_slice.ensures.len, c.told-bytes) in
    λ from past.
    put_behind c.args.text.now c.copy_from_slice.new.self c.args.done g.row.N _ from c.requires long count past

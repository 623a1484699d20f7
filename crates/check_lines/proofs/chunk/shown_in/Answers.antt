use Rattle.std.proofs.Common.{◌≡◌, arith, drop, length, length-drop, take}
use Rattle.std.proofs.lemmas.List.{length-take}
use Rattle.check_lines.proofs.ChunkLemmas.{shown_lanes}
use Rattle.check_lines.proofs.chunk.shown_in.Goals as goal

pub returns : goal.returns
returns c =
    let bytes = take 16 (drop c.args.at c.args.text.now) in
    let long : length bytes ≡ 16 =
    omega (arith, length-take 16 (drop c.args.at c.args.text.now), length-drop c.args.at c.args.text.now, c.requires) in
    shown_lanes c.args.strict bytes c.joined.result c.joined.ensures long

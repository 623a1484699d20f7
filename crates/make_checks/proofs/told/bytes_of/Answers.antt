use Rattle.tt_pieces.specs.contracts.gathered.GatheredSink.TheImpl.{ghosts}
use Rattle.tt_pieces.proofs.PenLemmas.{gathered_whole, told_by}
use Rattle.make_checks.proofs.told.bytes_of.Goals as goal

pub returns-in-Ok : goal.returns-in-Ok
returns-in-Ok c =
    let told = told_by ghosts c.new-pen.result c.new-sink.result _ _ c.new-pen.ensures c.put_file.ensures in
    let ended = c.in-Ok.ensures.ends _ _ told in
    gathered_whole _ _ _ _ c.new-sink.ensures c.into_bytes.ensures ended.0

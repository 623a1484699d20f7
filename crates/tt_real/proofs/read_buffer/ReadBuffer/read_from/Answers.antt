use Rattle.std.proofs.Common.{◌+◌, drop, take, ap, ◌∙◌, rules}
use Rattle.std.proofs.lemmas.List.{with_items_is, places}
use Rattle.tt_real.proofs.BufferLemmas.{front_and_more}
use Rattle.tt_real.proofs.read_buffer.ReadBuffer.read_from.Goals as goal

pub returns-in-Ok : goal.returns-in-Ok
returns-in-Ok g c =
    let held = c.self.inside in
    let bytes = c.read_behind.new.bytes in
    let same = c.in-Ok.ensures.front ∙ ap (take held.read) c.as_mut_slice.ensures.value in
    let more = front_and_more c.args.self.now held.bytes.items bytes held.read c.in-Ok.count (search rules) same in
    let all = with_items_is held.bytes bytes (search (rules, places)) in
    (take c.in-Ok.count (drop held.read bytes), ap (take (held.read + c.in-Ok.count)) all ∙ more, c.in-Ok.ensures.read)

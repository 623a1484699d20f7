use Rattle.std.proofs.Common.{◌<◌, ◌/◌, length, ◌∙◌, arith}
use Rattle.std.proofs.lemmas.Grind.{get_or_default_zero}
use Rattle.ere_places.proofs.SeenLemmas.{put_held}
use Rattle.ere_places.proofs.seen.Seen.put.Goals as goal

pub returns-clause-held : goal.returns-clause-held
returns-clause-held c = λ q.
    let seen = c.args.self.now in
    let within : c.distance-at.result / 64 < length c.grow.new.words.items =
    omega (arith, c.in_ok-grow.ensures.long, c.grow.new.words.ok) in
    put_held seen.direction seen.base c.args.place c.distance-at.result c.index_mut.result.now seen.words.items
    c.grow.new.words.items q c.requires c.distance-at.ensures within
    (c.index_mut.ensures.value
    ∙ get_or_default_zero c.grow.new.words.items (c.distance-at.result / 64) c.index_mut.result.now within)
    c.in_ok-grow.ensures.same

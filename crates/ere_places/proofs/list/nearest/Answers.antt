use Rattle.std.proofs.Common.{ℕ, IsTrue, List, take, subst}
use Rattle.std.proofs.lemmas.List.{take_all}
use Rattle.std.proofs.lemmas.List.Elements.{All-more, All-weaker}
use Rattle.std.specs.List.{All}
use Rattle.ere_places.specs.Seen.{is_beyond}
use Rattle.ere_places.proofs.list.nearest.Goals as goal

pub loop-place-preserved : goal.loop-place-preserved
loop-place-preserved c =
    let old = λ (p : ℕ). IsTrue (is_beyond c.args.direction c.loop-place.near p) in
    let new = λ (p : ℕ). IsTrue (is_beyond c.args.direction c.nearer-near.result p) in
    let places = c.args.places.now in
    All-more new places c.loop-place.place-index 0 c.loop-place-test.true
    (All-weaker old new c.nearer-near.ensures.one (take c.loop-place.place-index places) c.loop-place.invariant)
    c.nearer-near.ensures.other

pub returns : goal.returns
returns c = subst (λ (xs : List ℕ). All (λ p. IsTrue (is_beyond c.args.direction c.loop-place.near p)) xs)
    (take_all c.loop-place.place-index c.args.places.now c.loop-place-test.false) c.loop-place.invariant

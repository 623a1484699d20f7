use Rattle.std.proofs.Common.{◌≤◌, List, subst, take, arith}
use Rattle.std.proofs.lemmas.List.{take_all}
use Rattle.std.proofs.lemmas.List.Elements.{All-more, All-weaker}
use Rattle.std.specs.List.{All}
use Rattle.ere_auto.proofs.ends.greatest_of.Goals as goal

pub loop-place-preserved : goal.loop-place-preserved
loop-place-preserved c =
    let places = c.args.places.now in
    All-more (λ p. p ≤ c.max-greatest.result) places c.loop-place.place-index 0 c.loop-place-test.true
    (All-weaker (λ p. p ≤ c.loop-place.greatest) (λ p. p ≤ c.max-greatest.result)
    (λ p low. omega (arith, low, c.max-greatest.ensures)) (take c.loop-place.place-index places) c.loop-place.invariant)
    (omega (arith, c.max-greatest.ensures))

pub returns : goal.returns
returns c = subst (λ (xs : List _). All (λ p. p ≤ c.loop-place.greatest) xs)
    (take_all c.loop-place.place-index c.args.places.now c.loop-place-test.false) c.loop-place.invariant

use Rattle.std.proofs.Common.{◌≤◌, List, subst, take, arith}
use Rattle.std.proofs.lemmas.List.{take_all}
use Rattle.std.proofs.lemmas.List.Elements.{All-more, All-weaker}
use Rattle.std.specs.List.{All}
use Rattle.ere_auto.proofs.ends.least_of.Goals as goal

pub loop-place-preserved : goal.loop-place-preserved
loop-place-preserved c =
    let places = c.args.places.now in
    record {
      within = omega (arith, c.loop-place.invariant.within, c.min-least.ensures);
      least =
          All-more (λ p. c.min-least.result ≤ p) places c.loop-place.place-index 0 c.loop-place-test.true
          (All-weaker (λ p. c.loop-place.least ≤ p) (λ p. c.min-least.result ≤ p)
          (λ p low. omega (arith, low, c.min-least.ensures)) (take c.loop-place.place-index places)
          c.loop-place.invariant.least)
          (omega (arith, c.min-least.ensures));
    }

pub returns-clause-least : goal.returns-clause-least
returns-clause-least c = subst (λ (xs : List _). All (λ p. c.loop-place.least ≤ p) xs)
    (take_all c.loop-place.place-index c.args.places.now c.loop-place-test.false) c.loop-place.invariant.least

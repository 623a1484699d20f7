use Rattle.std.proofs.Common.{◌≡◌, ◌+◌, List, [], ◌∷◌, ◌++◌, ℕ, take, get_or, sym, ◌∙◌, subst}
use Rattle.std.proofs.lemmas.List.{take_more, take_all}
use Rattle.ere_places.specs.Seen.{is_held}
use Rattle.ere_places.proofs.ListLemmas.{AreSame, same_push}
use Rattle.ere_places.proofs.seen.Seen.of.Goals as goal

pub loop-place-preserved : goal.loop-place-preserved
loop-place-preserved c =
    let places = c.args.places.now in
    let i = c.loop-place.place-index in
    let now = is_held c.put.new.self in
    record {
      held = subst (AreSame now) (sym (take_more places i 0 c.loop-place-test.true))
          (same_push (is_held c.loop-place.seen) now (take i places) (get_or places i 0) c.in_ok-put.ensures.held
          c.loop-place.invariant.held);
      base = c.put.ensures.base ∙ c.loop-place.invariant.base;
      direction = c.put.ensures.direction ∙ c.loop-place.invariant.direction;
    }

pub returns : goal.returns
returns c = subst (λ (xs : List ℕ). AreSame (is_held c.loop-place.seen) xs)
    (take_all c.loop-place.place-index c.args.places.now c.loop-place-test.false) c.loop-place.invariant.held

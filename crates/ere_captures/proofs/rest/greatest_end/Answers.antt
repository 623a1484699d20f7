use Rattle.std.proofs.Common.{[], ◌∷◌, sym, subst}
use Rattle.ere_tree.specs.View.{view}
use Rattle.ere_places.specs.Places.{LeadsInside, AreReached}
use Rattle.ere_places.specs.Seen.{is_held}
use Rattle.ere_places.specs.declared.window.Direction.TheVariants.{Ahead}
use Rattle.ere_captures.proofs.GreatestLemmas.{ends_are, greatest_end}
use Rattle.ere_captures.proofs.rest.greatest_end.Goals as goal

pub returns-in-Some : goal.returns-in-Some
returns-in-Some c =
    let s = c.args.text.now in
    let t = view c.args.ere.now in
    let ends = c.as_slice.result.now in
    greatest_end s t c.args.from c.args.to ends (is_held c.args.set.now) c.in-Some.end
    (ends_are s t c.args.from c.args.to ends c.requires.order
    (subst (AreReached (LeadsInside s t (record { low = c.args.from; high = c.args.to; direction = Ahead }))
    (c.args.from ∷ [])) (sym c.as_slice.ensures.value) c.in_ok-ends.ensures)) c.in-Some.ensures

pub returns : goal.returns
returns c =
    let s = c.args.text.now in
    let t = view c.args.ere.now in
    let ends = c.as_slice.result.now in
    let are = ends_are s t c.args.from c.args.to ends c.requires.order
    (subst (AreReached (LeadsInside s t (record { low = c.args.from; high = c.args.to; direction = Ahead }))
    (c.args.from ∷ [])) (sym c.as_slice.ensures.value) c.in_ok-ends.ensures) in
    let some = c.requires.some in
    absurd (c.in-None.ensures some.0 ((are some.0).1 (some.1, some.2)) some.3)

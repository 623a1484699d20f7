use Rattle.std.proofs.Common.{IsTrue, [], ◌∷◌, sym, subst}
use Rattle.std.proofs.lemmas.Bool.{le-leb}
use Rattle.std.proofs.lemmas.List.Elements.{All-weaker}
use Rattle.ere_captures.proofs.GreatestLemmas.{ends_are}
use Rattle.ere_places.proofs.ReachLemmas.{reached_inside, then_both}
use Rattle.ere_places.specs.Places.{AreReached, IsInside, LeadsInside}
use Rattle.ere_places.specs.Seen.{is_beyond}
use Rattle.ere_places.specs.declared.window.Direction.TheVariants.{Ahead}
use Rattle.ere_tree.specs.View.{view}
use Rattle.ere_refs.proofs.ends.ends_between.Goals as goal

pub of-requires : goal.of-requires
of-requires c =
    let s = c.args.text.now in
    let t = view c.args.ere.now in
    let from = c.args.from in
    let to = c.args.to in
    let ends = c.as_slice-places.result.now in
    All-weaker (IsInside (record { low = from; high = to; direction = Ahead })) (λ q. IsTrue (is_beyond Ahead from q))
    (λ q h. le-leb from q h.0) ends
    (reached_inside s t (record { low = from; high = to; direction = Ahead }) (from ∷ []) ends
    (subst (AreReached (LeadsInside s t (record { low = from; high = to; direction = Ahead })) (from ∷ []))
    (sym c.as_slice-places.ensures.value) c.in_ok-ends.ensures))

-- the set has the places of the list, which are the ends
pub returns-clause-are : goal.returns-clause-are
returns-clause-are c =
    let s = c.args.text.now in
    let t = view c.args.ere.now in
    let from = c.args.from in
    let to = c.args.to in
    let ends = c.as_slice-places.result.now in
    let are = ends_are s t from to ends c.requires.order
    (subst (AreReached (LeadsInside s t (record { low = from; high = to; direction = Ahead })) (from ∷ []))
    (sym c.as_slice-places.ensures.value) c.in_ok-ends.ensures) in
    λ q. then_both (c.in_ok-seen.ensures q) (are q)

pub returns-clause-last : goal.returns-clause-last
returns-clause-last c = λ q holds. c.last_of-last.ensures q ((c.in_ok-seen.ensures q).0 holds)

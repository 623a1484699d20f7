-- What ends in the window is led back from there.
use Rattle.std.proofs.Common.{ℕ, IsTrue, sym, subst, arith}
use Rattle.std.proofs.lemmas.Bool.{le-leb}
use Rattle.std.proofs.lemmas.List.Elements.{All-weaker}
use Rattle.std.specs.List.{All, Contains}
use Rattle.ere_places.proofs.ReachLemmas.{reached_inside}
use Rattle.ere_places.specs.Places.{AreReached, IsInside, LeadsInside}
use Rattle.ere_places.specs.Seen.{is_beyond}
use Rattle.ere_places.specs.declared.window.Direction.TheVariants.{Ahead, Back}
use Rattle.ere_places.specs.declared.window.Window.{Window}
use Rattle.ere_tree.proofs.DerivationLemmas.{is_part}
use Rattle.ere_tree.specs.View.{view}
use Rattle.ere_match.proofs.line.begins_in.Goals as goal

pub image-requires-clause-inside : goal.image-requires-clause-inside
image-requires-clause-inside c =
    subst (All (IsInside (record { low = c.args.low; high = c.args.high; direction = Back })))
    (sym c.as_slice.ensures.value) c.in_ok-all.ensures.inside

pub of-requires : goal.of-requires
of-requires c =
    let window : Window = record { low = c.args.low; high = c.args.high; direction = Back } in
    subst (All (λ q. IsTrue (is_beyond Ahead c.args.low q))) (sym c.as_slice-2.ensures.value)
    (All-weaker (IsInside window) (λ q. IsTrue (is_beyond Ahead c.args.low q)) (λ q h. le-leb c.args.low q h.0)
    c.in_ok-begins.begins.items
    (reached_inside c.args.slice.now (view c.args.free.now) window c.as_slice.result.now c.in_ok-begins.begins.items
    c.in_ok-begins.ensures))

pub returns : goal.returns
returns c = λ h k low high shows.
    let s = c.args.slice.now in
    let t = view c.args.free.now in
    let lies = is_part s t shows.0 h k shows.1 shows.2 shows.3 in
    let from = subst (λ xs. Contains xs k) (sym c.as_slice.ensures.value)
    (c.in_ok-all.ensures.each k (omega (arith, low, lies.0), high)) in
    let has = (c.in_ok-begins.ensures h).1 (k, from, (shows, (low, omega (arith, lies.0, high)))) in
    (c.in_ok-seen.ensures h).1 (subst (λ xs. Contains xs h) (sym c.as_slice-2.ensures.value) has)

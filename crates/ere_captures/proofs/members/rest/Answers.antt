use Rattle.std.proofs.Common.{◌↔◌, ℕ, ◌≤◌, IsTrue, [], ◌∷◌, sym, subst}
use Rattle.std.specs.List.{Contains}
use Rattle.std.proofs.lemmas.Result.{IfOk-weaker}
use Rattle.ere_tree.specs.Derivation.{Spans}
use Rattle.ere_tree.specs.Tree.{repeat}
use Rattle.ere_tree.specs.View.{view}
use Rattle.ere_places.specs.Places.{LeadsInside, AreReached}
use Rattle.ere_places.specs.Seen.{is_held}
use Rattle.ere_places.specs.declared.window.Direction.TheVariants.{Back}
use Rattle.ere_places.proofs.ReachLemmas.{reached_inside, then_both}
use Rattle.ere_captures.proofs.GreatestLemmas.{starts_are, inside_beyond}
use Rattle.ere_captures.proofs.members.rest.Goals as goal

pub of-requires : goal.of-requires
of-requires c =
    let t = repeat (view c.args.inner.now) c.args.least c.args.most in
    let places = c.as_slice.result.now in
    inside_beyond c.args.input.now.from c.args.input.now.to Back places
    (reached_inside c.args.input.now.text.now t (record { low = c.args.input.now.from; high = c.args.input.now.to; direction = Back })
    (c.args.input.now.to ∷ []) places
    (subst (AreReached (LeadsInside c.args.input.now.text.now t (record { low = c.args.input.now.from; high = c.args.input.now.to; direction = Back }))
    (c.args.input.now.to ∷ [])) (sym c.as_slice.ensures.value) c.in_ok-places.ensures))

pub returns : goal.returns
returns c =
    let s = c.args.input.now.text.now in
    let t = repeat (view c.args.inner.now) c.args.least c.args.most in
    let places = c.as_slice.result.now in
    let reached : AreReached (LeadsInside s t (record { low = c.args.input.now.from; high = c.args.input.now.to; direction = Back }))
    (c.args.input.now.to ∷ []) places =
    subst (AreReached (LeadsInside s t (record { low = c.args.input.now.from; high = c.args.input.now.to; direction = Back }))
    (c.args.input.now.to ∷ [])) (sym c.as_slice.ensures.value) c.in_ok-places.ensures in
    IfOk-weaker c.of.result (λ seen. (q : ℕ) → IsTrue (is_held seen q) ↔ Contains places q)
    (λ seen. (q : ℕ) → IsTrue (is_held seen q) ↔ (Spans s t q c.args.input.now.to × (c.args.input.now.from ≤ q)))
    (λ seen h q. then_both (h q) (starts_are s t c.args.input.now.from c.args.input.now.to places c.requires.order reached q))
    c.of.ensures

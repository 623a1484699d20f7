use Rattle.std.proofs.Common.{◌≡◌, [], ◌∷◌, sym, ◌∙◌, subst, arith}
use Rattle.ere_tree.proofs.CaseLemmas.{among_contains, contains_among}
use Rattle.ere_tree.specs.Case.{is_among}
use Rattle.ere_tree.specs.View.{view}
use Rattle.ere_places.specs.Places.{LeadsInside, AreReached}
use Rattle.ere_places.specs.declared.window.Direction.TheVariants.{Back}
use Rattle.ere_captures.proofs.GreatestLemmas.{starts_are}
use Rattle.ere_captures.proofs.rest.spans.Goals as goal

pub returns : goal.returns
returns c =
    let s = c.args.text.now in
    let t = view c.args.ere.now in
    let starts = c.as_slice.result.now in
    let reached : AreReached (LeadsInside s t (record { low = c.args.from; high = c.args.to; direction = Back }))
    (c.args.to ∷ []) starts =
    subst (AreReached (LeadsInside s t (record { low = c.args.from; high = c.args.to; direction = Back }))
    (c.args.to ∷ [])) (sym c.as_slice.ensures.value) c.in_ok-starts.ensures in
    let are = starts_are s t c.args.from c.args.to starts c.requires.order reached c.args.from in
    let is : c.contains.result ≡ is_among starts c.args.from = c.contains.ensures.value in (
      λ yes. (are.0 (among_contains starts c.args.from (sym is ∙ yes))).0,
      λ span. is ∙ contains_among starts c.args.from (are.1 (span, omega arith)),
    )

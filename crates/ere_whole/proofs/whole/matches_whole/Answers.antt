use Rattle.std.proofs.Common.{◌≡◌, ℕ, ◌==◌, length, sym, ◌∙◌, subst, arith, eqb-true}
use Rattle.std.proofs.lemmas.Bool.Decides.{nat_tests}
use Rattle.ere_tree.specs.Derivation.{Spans}
use Rattle.ere_tree.specs.View.{view}
use Rattle.ere_whole.specs.Places.{is_held}
use Rattle.ere_whole.proofs.whole.matches_whole.Goals as goal

pub returns : goal.returns
returns c =
    let s = c.args.text.now in
    let R = Spans s (view c.args.ere.now) in
    let start = c.put.new.self in
    let at : (q : ℕ) → is_held start q ≡ (q == 0) = λ q.
    grind (arith, nat_tests, c.put.ensures.held q, c.none-start.ensures.held q, c.none-start.ensures.block) in
    record {
      exact = (
        λ h. let r = (c.image-ends.ensures.exact (length s)).0 (sym c.has.ensures ∙ h) in
            subst (λ p. R p (length s)) (eqb-true r.1.0 0 (sym (at r.1.0) ∙ r.1.1)) r.1.2,
        λ h. c.has.ensures ∙ (c.image-ends.ensures.exact (length s)).1
            (sym c.block_of.ensures ∙ sym c.image-ends.ensures.block, (0, at 0, h)),
      );
    }

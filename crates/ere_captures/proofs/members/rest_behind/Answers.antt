use Rattle.std.proofs.Common.{◌≡◌, ℕ, ◌-◌, Option, Some, None, false, refl, sym, ap, ◌∙◌, true≢false, arith, IfOk}
use Rattle.std.specs.Option.{is_some}
use Rattle.ere_captures.specs.Walk.{RestIn, RestOf, less_one}
use Rattle.ere_tree.specs.View.{view}
use Rattle.ere_captures.proofs.WalkLemmas.{along}
use Rattle.ere_captures.proofs.members.rest_behind.Goals as goal

none_is : (most : Option ℕ) → is_some most ≡ false → less_one (less_one most) ≡ less_one most
none_is None is = refl
none_is (Some most) is = absurd (true≢false is)

pub returns-then-is_none : goal.returns-then-is_none
returns-then-is_none c =
    along (λ n o. RestOf c.args.input.now.text.now (view c.args.inner.now) n o c.args.input.now.from c.args.input.now.to c.args.set)
    (c.args.least - 1) (c.args.least - 1 - 1) (less_one c.args.most) (less_one (less_one c.args.most))
    (omega (arith, c.if-least-eq0.true)) (none_is c.args.most c.if-is_none.ensures) c.requires.held

pub returns : goal.returns
returns c =
    along (λ n o. IfOk c.rest.result (RestIn c.args.input.now (view c.args.inner.now) n o))
    c.saturating_sub-fewer.result (c.args.least - 1 - 1) c.less_one-2.result (less_one (less_one c.args.most))
    (omega (arith, c.saturating_sub.ensures, c.saturating_sub-fewer.ensures))
    (ap less_one (sym c.less_one.ensures) ∙ sym c.less_one-2.ensures) c.rest.ensures

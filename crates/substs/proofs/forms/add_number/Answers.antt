use Rattle.std.proofs.Common.{◌++◌, ap, ◌∙◌, subst, to_z-of_z}
use Rattle.std.specs.Fmt.{signed_decimal}
use Rattle.substs.specs.Expansion.{Adds}
use Rattle.substs.proofs.forms.add_number.Goals as goal

pub returns : goal.returns
returns c =
    let back = to_z-of_z c.ranges.number in
    let text = c.as_bytes.ensures.value ∙ c.format.ensures.text ∙ ap signed_decimal back in
    subst (λ t. Adds c.args.made.now (c.args.piece.now ++ t) c.add_both.new.line
    c.add_both.result) text c.add_both.ensures

use Rattle.std.proofs.Common.{rules, ◌≡◌, ◌++◌, ◌∙◌, subst, to_z-of_z, to_z, of_z}
use Rattle.std.specs.Int.{w128}
use Rattle.std.specs.Fmt.{signed_decimal}
use Rattle.substs.specs.Expansion.{Adds}
use Rattle.substs.proofs.forms.add_line.Goals as goal

pub returns : goal.returns
returns c =
    let back : to_z w128 (of_z w128 c.reckoned-line.result) ≡ c.reckoned-line.result =
    to_z-of_z {w = w128} (search rules) in
    let same = back ∙ c.reckoned-line.ensures in
    subst (λ n. Adds c.args.made.now (c.args.piece.now ++ signed_decimal n) c.add_number.new.made
    c.add_number.result) same
    c.add_number.ensures

use Rattle.std.proofs.Common.{arith, rules, sym, ◌∙◌, le_refl}
use Rattle.std.proofs.lemmas.List.Sums.{prefix_len_is}
use Rattle.bool_exprs.specs.Piece.{is_in_name}
use Rattle.bool_exprs.proofs.front.name_length.Goals as goal

pub returns-then-not-is_in_name-clause-exact : goal.returns-then-not-is_in_name-clause-exact
returns-then-not-is_in_name-clause-exact c =
    sym (prefix_len_is is_in_name c.args.text.now c.loop-at.at 0 (omega arith) c.loop-at.invariant
    (λ _. sym c.is_in_name.ensures ∙ search rules))

pub returns-clause-exact : goal.returns-clause-exact
returns-clause-exact c =
    sym (prefix_len_is is_in_name c.args.text.now _ 0 (le_refl _)
    (λ k below. c.loop-at.invariant k (omega arith)) (λ impossible. absurd (omega arith)))

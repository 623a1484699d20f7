use Rattle.std.proofs.Common.{arith, rules, sym, ◌∙◌, le_refl}
use Rattle.std.proofs.lemmas.List.Sums.{prefix_len_is}
use Rattle.mini_shell.specs.Class.{has}
use Rattle.mini_shell.proofs.class.front.Goals as goal

pub returns-then-not-has-clause-value : goal.returns-then-not-has-clause-value
returns-then-not-has-clause-value c =
    sym (prefix_len_is (has c.args.class) c.args.text.now c.loop-at.at 0 (omega arith) c.loop-at.invariant
    (λ _. sym c.has.ensures ∙ search rules))

pub returns-clause-value : goal.returns-clause-value
returns-clause-value c =
    sym (prefix_len_is (has c.args.class) c.args.text.now _ 0 (le_refl _)
    (λ k below. c.loop-at.invariant k (omega arith)) (λ impossible. absurd (omega arith)))

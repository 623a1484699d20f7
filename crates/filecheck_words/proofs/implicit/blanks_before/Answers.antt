use Rattle.std.proofs.Common.{arith, rules, sym, ◌∙◌, le_refl}
use Rattle.std.proofs.lemmas.List.Sums.{prefix_len_is}
use Rattle.check_lines.specs.Class.{has}
use Rattle.check_lines.specs.declared.class.Class.TheVariants.{Blank}
use Rattle.filecheck_words.proofs.implicit.blanks_before.Goals as goal

pub returns-then-not-is_blank-clause-value : goal.returns-then-not-is_blank-clause-value
returns-then-not-is_blank-clause-value c =
    sym (prefix_len_is (has Blank) c.args.text.now c.loop-at.at 0 (omega arith) c.loop-at.invariant
    (λ _. sym c.is_blank.ensures ∙ search rules))

pub returns-clause-value : goal.returns-clause-value
returns-clause-value c =
    sym (prefix_len_is (has Blank) c.args.text.now _ 0 (le_refl _)
    (λ k below. c.loop-at.invariant k (omega arith)) (λ impossible. absurd (omega arith)))

use Rattle.std.proofs.Common.{◌≡◌, ◌-◌, length, arith, rules, sym, ◌∙◌}
use Rattle.std.proofs.lemmas.List.Sums.{suffix_len_is}
use Rattle.std.specs.List.{suffix_len}
use Rattle.check_lines.specs.Class.{has}
use Rattle.check_lines.specs.declared.class.Class.TheVariants.{Blank}
use Rattle.filecheck_words.proofs.implicit.blanks_behind.Goals as goal

pub returns-then-not-is_blank-clause-value : goal.returns-then-not-is_blank-clause-value
returns-then-not-is_blank-clause-value c =
    let text = c.args.text.now in
    let measured : suffix_len (has Blank) text ≡ length text - c.loop-at.at =
    suffix_len_is (has Blank) text c.loop-at.at 0 (omega arith) c.loop-at.invariant
    (λ _. sym c.is_blank.ensures ∙ search rules) in
    omega arith

pub returns-clause-value : goal.returns-clause-value
returns-clause-value c =
    let text = c.args.text.now in
    let measured : suffix_len (has Blank) text ≡ length text - 0 =
    suffix_len_is (has Blank) text 0 0 (omega arith)
    (λ k low high. c.loop-at.invariant k (omega arith) high) (λ impossible. absurd (omega arith)) in
    omega arith

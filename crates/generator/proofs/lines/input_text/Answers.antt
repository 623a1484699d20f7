use Rattle.std.proofs.Common.{◌≡◌, arith, ◌*◌, ◌≤◌, ◌∙◌, ap, length, subst, sym}
use Rattle.generator.specs.Generated.{first_lines, input_line}
use Rattle.generator.proofs.ShortLemmas.{text_short}
use Rattle.generator.proofs.lines.input_text.Goals as goal

pub returns-clause-short : goal.returns-clause-short
returns-clause-short c = λ low.
    let all : c.loop-done.done ≡ c.args.lines = omega (arith, c.loop-done-test.false, c.loop-done.auto.done-end) in
    subst (λ text. length text ≤ c.args.lines * 64) (sym (c.loop-done.invariant ∙ ap (first_lines input_line) all))
    (text_short c.args.lines low)

use Rattle.std.proofs.Common.{◌≡◌, ◌+◌, ◌-◌, ◌<◌, nat_le, ℕ, length, get_or, sym, ◌∙◌, arith}
use Rattle.std.proofs.lemmas.Bool.Decides.{nat_tests}
use Rattle.input_dump.proofs.ReachLemmas.{next_tells}
use Rattle.input_dump.proofs.cursor.is_next_near.Goals as goal

same_le : (line number context first : ℕ) → number < line → line ≡ first → nat_le (line - number) context ≡ nat_le first (number + context)
same_le line number context first below is = grind (arith, nat_tests)

pub returns-else-line-number : goal.returns-else-line-number
returns-else-line-number c =
    let look = c.in-Some.ensures.lookup in
    let low : c.args.passed < length c.args.lines.now = look.3.0 in
    same_le c.in-Some.line.now c.args.number c.args.context (get_or c.args.lines.now c.args.passed 0) c.if-line-number.false (look.4 (omega arith) 0)
    ∙ sym (next_tells c.args.lines.now c.args.passed c.args.context c.args.number c.requires.ascending c.requires.first low)

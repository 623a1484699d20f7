use Rattle.check_lines.proofs.SuffixLemmas.{number_all}
use Rattle.check_lines.proofs.suffix.number.Goals as goal

pub returns : goal.returns
returns c =
    number_all c.args.digits.now c.loop-digit.digit-index c.loop-digit.value c.loop-digit-test.false c.loop-digit.invariant

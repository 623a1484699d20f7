use Rattle.std.proofs.Common.{sym, ◌∙◌}
use Rattle.opt_words.proofs.NumberLemmas.{spelled, not_spelled}
use Rattle.opt_words.proofs.number.decimal.Goals as goal

pub returns-in-None : goal.returns-in-None
returns-in-None c = not_spelled c.loop-byte.number c.args.text.now c.loop-byte.byte-index c.loop-byte-test.true (sym c.with_digit.ensures ∙ c.in-None.is) c.loop-byte.invariant.fits

pub returns : goal.returns
returns c = spelled c.loop-byte.number c.args.text.now c.loop-byte.byte-index c.loop-byte.invariant.some c.loop-byte-test.false c.loop-byte.invariant.small c.loop-byte.invariant.fits c.loop-byte.invariant.spelled

use Rattle.std.proofs.Common.{rules, arith}
use Rattle.num_spell.proofs.ValueLemmas.{all_read, too_large}
use Rattle.num_spell.proofs.reading.number_of.Goals as goal

pub returns-in_default : goal.returns-in_default
returns-in_default c =
    too_large c.args.base c.loop-byte.value c.loop-byte.byte-index c.args.text.now c.requires.base c.loop-byte-test.true
    c.loop-byte.invariant.rest (grind (arith, c.in_default.ensures))

pub returns-in_default-checked_add : goal.returns-in_default-checked_add
returns-in_default-checked_add c =
    too_large c.args.base c.loop-byte.value c.loop-byte.byte-index c.args.text.now c.requires.base c.loop-byte-test.true
    c.loop-byte.invariant.rest
    (grind (arith, c.in_default-checked_add.ensures, c.value_of.ensures.exact, c.in-Some.ensures))

pub returns : goal.returns
returns c =
    all_read c.args.base c.loop-byte.value c.loop-byte.byte-index c.args.text.now (search rules)
    c.loop-byte.invariant.small c.loop-byte.invariant.rest

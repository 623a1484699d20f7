use Rattle.std.proofs.Common.{◌≡◌, ◌-◌, reverse}
use Rattle.std.specs.Fmt.{digits, digits_onto}
use Rattle.num_spell.proofs.printing.digits_from_last.Given as goal

abbrev pub invariant-loop-taken : goal.invariant-loop-taken
invariant-loop-taken l =
    digits_onto (64 - l.taken) l.base l.upper l.rest (reverse l.made.items) ≡ digits l.base l.upper l.n

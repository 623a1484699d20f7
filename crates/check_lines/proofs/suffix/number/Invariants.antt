use Rattle.std.proofs.Common.{◌≡◌, min, take}
use Rattle.check_lines.specs.Suffix.{number_of}
use Rattle.check_lines.proofs.suffix.number.Given as goal

abbrev pub invariant-loop-digit : goal.invariant-loop-digit
invariant-loop-digit l = l.value ≡ min (number_of (take l.digit-index l.digits)) 1000000

use Rattle.std.proofs.Common.{◌≡◌, drop, ◌<◌, ◌^◌}
use Rattle.std.specs.Str.Parse.{digits_value, digits_value_after}
use Rattle.num_spell.proofs.reading.number_of.Given as goal

abbrev pub invariant-loop-byte : goal.invariant-loop-byte
invariant-loop-byte l = record {
  rest : digits_value_after l.base l.value (drop l.byte-index l.text) ≡ digits_value l.base l.text;
  small : l.value < 2 ^ 128;
}

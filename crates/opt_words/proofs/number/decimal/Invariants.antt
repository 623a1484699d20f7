use Rattle.std.proofs.Common.{◌≡◌, ◌<◌, ◌^◌, length, drop}
use Rattle.opt_words.specs.Number.{fits_behind, number_behind}
use Rattle.opt_words.proofs.number.decimal.Given as goal

abbrev pub invariant-loop-byte : goal.invariant-loop-byte
invariant-loop-byte l = record {
  some : 0 < length l.text;
  small : l.number < 2 ^ 64;
  fits : fits_behind l.number (drop l.byte-index l.text) ≡ fits_behind 0 l.text;
  spelled : number_behind l.number (drop l.byte-index l.text) ≡ number_behind 0 l.text;
}

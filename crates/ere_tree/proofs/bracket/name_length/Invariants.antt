use Rattle.std.proofs.Common.{◌≡◌, ◌+◌, drop}
use Rattle.ere_tree.specs.Bracket.{name_len}
use Rattle.ere_tree.proofs.bracket.name_length.Given as goal

abbrev pub invariant-loop-index : goal.invariant-loop-index
invariant-loop-index l = name_len (drop l.index l.text) + l.index ≡ name_len l.text

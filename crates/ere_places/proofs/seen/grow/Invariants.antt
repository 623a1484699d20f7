use Rattle.std.proofs.Common.{◌≡◌, ℕ, ◌+◌, ◌-◌, vec_len}
use Rattle.ere_tree.specs.View.{has_bit}
use Rattle.ere_places.proofs.seen.grow.Given as goal

abbrev pub invariant-loop-words : goal.invariant-loop-words
invariant-loop-words l = (b : ℕ) → has_bit l.words.items b ≡ has_bit l.fn.words.items b

abbrev pub decreases-loop-words : goal.decreases-loop-words
decreases-loop-words l = l.index + 1 - vec_len l.words

use Rattle.std.proofs.Common.{◌||◌, ◌&&◌, nat_le, nat_lt}
use Rattle.ere_tree.specs.Bytes.{HasBytes}
use Rattle.ere_tree.specs.View.{has_bit}
use Rattle.ere_tree.proofs.byte_set.ByteSet.insert_range.Given as goal

abbrev pub invariant-loop-byte : goal.invariant-loop-byte
invariant-loop-byte l = HasBytes l.self.bits (λ b. has_bit l.fn.self.bits b || (nat_le l.low b && nat_lt b l.byte))

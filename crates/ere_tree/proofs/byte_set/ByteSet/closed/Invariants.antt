use Rattle.std.proofs.Common.{◌||◌, ◌&&◌, nat_le, nat_lt}
use Rattle.ere_tree.specs.Bytes.{HasBytes}
use Rattle.ere_tree.specs.Case.{other_case}
use Rattle.ere_tree.specs.View.{has_bit}
use Rattle.ere_tree.proofs.byte_set.ByteSet.closed.Given as goal

abbrev pub invariant-loop-byte : goal.invariant-loop-byte
invariant-loop-byte l = HasBytes l.made.bits
    (λ b. has_bit l.self.bits b || (nat_le 65 b && nat_lt b l.byte && has_bit l.self.bits (other_case b)))

use Rattle.std.proofs.Common.{arith}
use Rattle.ere_tree.proofs.CaseLemmas.{one_of_bits}
use Rattle.ere_tree.proofs.byte_set.ByteSet.of_byte.Goals as goal

pub returns : goal.returns
returns c = one_of_bits c.empty-set.result.bits c.insert.new.self.bits c.args.byte (omega arith)
    c.empty-set.ensures c.insert.ensures

use Rattle.std.proofs.Common.{◌≡◌, ℕ, ◌∙◌, ap, sym, arith}
use Rattle.ere_tree.specs.Case.{other_case}
use Rattle.ere_tree.specs.View.{has_bit}
use Rattle.ere_tree.specs.declared.byte_set.ByteSet.{ByteSet}
use Rattle.ere_tree.proofs.CaseLemmas.{closed_with, closed_without}
use Rattle.ere_tree.proofs.byte_set.ByteSet.closed.Goals as goal
use Rattle.ere_tree.proofs.byte_set.ByteSet.closed.Goals.{then-has, else-has}

pub loop-byte-preserved : goal.loop-byte-preserved
loop-byte-preserved c =
    let f = has_bit c.args.self.now.bits in
    let g = λ (b : ℕ). has_bit c.args.self.now.bits (other_case b) in
    let is : g c.loop-byte.byte ≡ c.has.result = ap f (sym c.other_case.ensures.value) ∙ sym c.has.ensures.exact in
    elim c.if-has.branch [
      | then-has w ↦ λ b low. ap (λ (set : ByteSet). has_bit set.bits b) w.made-is
          ∙ closed_with f g c.loop-byte.made.bits w.insert.new.self.bits c.loop-byte.byte (omega arith)
          (is ∙ w.if-has.true) c.loop-byte.invariant w.insert.ensures b low
      | else-has w ↦ λ b low. ap (λ (set : ByteSet). has_bit set.bits b) w.made-is
          ∙ closed_without f g c.loop-byte.made.bits c.loop-byte.byte (is ∙ w.if-has.false)
          c.loop-byte.invariant b low
    ]

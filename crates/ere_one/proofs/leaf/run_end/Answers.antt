use Rattle.std.proofs.Common.{arith, subst, inl, inr, sym}
use Rattle.std.specs.Prelude.{slice_index}
use Rattle.std.specs.List.{Contains}
use Rattle.std.proofs.lemmas.Bool.{cases_order}
use Rattle.ere_tree.specs.View.{members_of}
use Rattle.ere_one.proofs.leaf.run_end.Goals as goal

pub loop-index-preserved : goal.loop-index-preserved
loop-index-preserved c = λ n low high. elim (cases_order n c.loop-index.index) [
  | inl same ↦
      subst (λ m. Contains (members_of c.args.set.now.bits) (slice_index c.args.slice.now m)) (sym same)
      (c.has.ensures.member.0 c.if-not-has.false)
  | inr other ↦ c.loop-index.invariant n low (omega arith)
]

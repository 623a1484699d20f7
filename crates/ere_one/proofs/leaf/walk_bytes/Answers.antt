use Rattle.std.proofs.Common.{sym, ◌∙◌, true≢false}
use Rattle.ere_tree.specs.Tree.{plain}
use Rattle.ere_one.proofs.LeafLemmas.{bytes_out, told_bytes, no_end}
use Rattle.ere_one.proofs.leaf.walk_bytes.Goals as goal

pub returns-then-stand_at : goal.returns-then-stand_at
returns-then-stand_at c = λ follow.
    told_bytes c.args.slice.now c.args.bytes.now c.args.at follow (c.stand_at.ensures.0 c.if-stand_at.true)

pub returns-else-stand_at : goal.returns-else-stand_at
returns-else-stand_at c = λ follow. no_end c.args.slice.now (plain c.args.bytes.now) c.args.at follow (λ k span.
    let stand = (bytes_out c.args.slice.now c.args.bytes.now c.args.at k span).0 in
    true≢false (sym (c.stand_at.ensures.1 stand) ∙ c.if-stand_at.false))

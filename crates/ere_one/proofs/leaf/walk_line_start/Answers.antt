use Rattle.std.proofs.Common.{sym, ◌∙◌}
use Rattle.ere_one.proofs.LeafLemmas.{told_line_start}
use Rattle.ere_one.proofs.leaf.walk_line_start.Goals as goal

pub returns-then-is_line_start : goal.returns-then-is_line_start
returns-then-is_line_start c = λ follow.
    told_line_start c.args.slice.now c.args.at follow (sym c.is_line_start.ensures ∙ c.if-is_line_start.true)

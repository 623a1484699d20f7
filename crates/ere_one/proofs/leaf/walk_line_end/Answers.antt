use Rattle.std.proofs.Common.{sym, ◌∙◌}
use Rattle.ere_one.proofs.LeafLemmas.{told_line_end}
use Rattle.ere_one.proofs.leaf.walk_line_end.Goals as goal

pub returns-then-is_line_end : goal.returns-then-is_line_end
returns-then-is_line_end c = λ follow.
    told_line_end c.args.slice.now c.args.at follow (sym c.is_line_end.ensures ∙ c.if-is_line_end.true)

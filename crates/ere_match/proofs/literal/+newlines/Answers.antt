use Rattle.std.proofs.Common.{sym, ap, ◌∙◌}
use Rattle.ere_tree.specs.View.{view, members_of}
use Rattle.ere_tree.proofs.ViewLemmas.{view_Set}
use Rattle.ere_match.specs.Begins.{may_hold_newline}
use Rattle.ere_match.proofs.NewlineLemmas.{set_tells}
use Rattle.ere_match.proofs.literal.+newlines.Goals as goal

pub may_hold_newline-returns-in-Set : goal.may_hold_newline-returns-in-Set
may_hold_newline-returns-in-Set t c =
    set_tells c.has.result (members_of c.in-Set.set.bits) c.has.ensures.member
    ∙ sym (ap may_hold_newline (ap view c.in-Set.is ∙ view_Set c.in-Set.set))

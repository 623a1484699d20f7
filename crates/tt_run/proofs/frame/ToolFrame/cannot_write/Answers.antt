use Rattle.tt_run.proofs.frame.ToolFrame.cannot_write.Goals as goal

pub returns-clause-told : goal.returns-clause-told
returns-clause-told g c = c.tell_parts.ensures

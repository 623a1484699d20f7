use Rattle.tt_run.proofs.frame.ToolFrame.out_of_memory.Goals as goal

pub returns-clause-told : goal.returns-clause-told
returns-clause-told g c = c.tell_parts.ensures

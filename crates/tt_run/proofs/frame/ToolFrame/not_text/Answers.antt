use Rattle.tt_run.proofs.frame.ToolFrame.not_text.Goals as goal

pub returns-clause-answered : goal.returns-clause-answered
returns-clause-answered g c = c.answer_parts.ensures.answered

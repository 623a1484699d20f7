use Rattle.lit_inproc.proofs.InsideLemmas.{in_same}
use Rattle.lit_inproc.proofs.hand.InHandRunner.ask.Goals as goal

pub returns-in_err-reply-clause-gave : goal.returns-in_err-reply-clause-gave
returns-in_err-reply-clause-gave g c = in_same _ _ c.answer.ensures.gave

pub returns-clause-gave : goal.returns-clause-gave
returns-clause-gave g c = in_same _ _ c.answer.ensures.gave

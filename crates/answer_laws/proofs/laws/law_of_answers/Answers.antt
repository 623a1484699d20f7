use Rattle.answer_laws.proofs.AnswerLemmas.{answer_is_one, room_leaves_one, unasked_is_free}
use Rattle.answer_laws.proofs.laws.law_of_answers.Goals as goal

pub returns : goal.returns
returns c = record { one = answer_is_one; unasked = unasked_is_free; room = room_leaves_one }

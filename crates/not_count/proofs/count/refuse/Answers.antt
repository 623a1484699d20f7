use Rattle.std.proofs.Common.{sym, subst}
use Rattle.opt_words.specs.Step.{texts}
use Rattle.tt_run.specs.Run.{Answered, stream_of}
use Rattle.not_count.specs.Count.{faulty_word_text, refusal_text}
use Rattle.not_count.proofs.count.refuse.Goals as goal

pub returns-in-FaultyWord-clause-answered : goal.returns-in-FaultyWord-clause-answered
returns-in-FaultyWord-clause-answered g c =
    let told = stream_of g.E.Sink c.args.err.now c.tell_fault.new.err in
    subst (λ refusal. Answered (refusal_text (texts c.args.words.now) refusal) 2 c.tell_fault.result told) (sym c.in-FaultyWord.is)
    (subst (λ word. Answered (faulty_word_text word c.in-FaultyWord.fault) 2 c.tell_fault.result told) c.word.ensures
    c.tell_fault.ensures.answered)

pub returns-in-NotOneNumber-clause-answered : goal.returns-in-NotOneNumber-clause-answered
returns-in-NotOneNumber-clause-answered g c =
    subst (λ refusal. Answered (refusal_text (texts c.args.words.now) refusal) 2 c.answer_on.result
    (stream_of g.E.Sink c.args.err.now c.answer_on.new.err))
    (sym c.in-NotOneNumber.is) c.answer_on.ensures.answered

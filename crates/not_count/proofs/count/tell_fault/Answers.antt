use Rattle.std.proofs.Common.{subst, ◌∷◌, []}
use Rattle.std.specs.List.{concat}
use Rattle.std.specs.Prelude.{codes}
use Rattle.opt_words.specs.Fault.{text_behind}
use Rattle.tt_run.specs.Frame.{newline}
use Rattle.tt_run.specs.Run.{Answered, stream_of}
use Rattle.not_count.proofs.count.tell_fault.Goals as goal

-- the parts, joined, with what the word's texts are
pub returns-clause-answered : goal.returns-clause-answered
returns-clause-answered g c =
    let word = c.args.word.now in
    let told = stream_of g.E.Sink c.args.err.now c.answer_parts.new.err in
    subst (λ lead. Answered (concat (codes "count: error: " ∷ lead ∷ word ∷ text_behind c.args.fault ∷ newline ∷ [])) 2 c.answer_parts.result told)
    c.text_before.ensures
    (subst (λ tail. Answered (concat (codes "count: error: " ∷ c.text_before.result.now ∷ word ∷ tail ∷ newline ∷ [])) 2 c.answer_parts.result told)
    c.text_behind.ensures c.answer_parts.ensures.answered)

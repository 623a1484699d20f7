use Rattle.std.proofs.Common.{subst, ◌∙◌, ◌++◌, ◌∷◌, []}
use Rattle.std.specs.List.{concat}
use Rattle.std.specs.Prelude.{codes, decimal}
use Rattle.tt_run.specs.Frame.{newline}
use Rattle.tt_run.specs.Run.{Answered, stream_of}
use Rattle.not_count.proofs.count.tell_lines.Goals as goal

-- the parts, joined, with the digits of both numbers
pub returns-clause-answered : goal.returns-clause-answered
returns-clause-answered g c =
    let told = stream_of g.E.Sink c.args.err.now c.answer_parts.new.err in
    let due = c.as_bytes-due.ensures.value ∙ c.format.ensures.text in
    let found = c.as_bytes-found.ensures.value ∙ c.format-2.ensures.text in
    subst (λ digits. Answered (concat (codes "Expected " ∷ digits ∷ codes " lines, got " ∷ decimal c.args.lines ∷ (codes "." ++ newline) ∷ [])) 1 c.answer_parts.result told)
    due
    (subst (λ digits. Answered (concat (codes "Expected " ∷ c.as_bytes-due.result.now ∷ codes " lines, got " ∷ digits ∷ (codes "." ++ newline) ∷ [])) 1 c.answer_parts.result told)
    found c.answer_parts.ensures.answered)

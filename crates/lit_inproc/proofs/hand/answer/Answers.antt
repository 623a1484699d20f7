use Rattle.std.proofs.Common.{◌∙◌, subst}
use Rattle.inner_answers.specs.Inside.{AreFit}
use Rattle.inner_answers.proofs.InsideLemmas.{broken_inside, fits_inside}
use Rattle.lit_inproc.proofs.hand.answer.Goals as goal

pub returns-clause-fit : goal.returns-clause-fit
returns-clause-fit g c =
    let fit = subst (λ asked. AreFit asked c.in_ok-replies.replies) (c.as_slice.ensures ∙ c.in_ok-asked.ensures)
    c.in_ok-replies.ensures.fit in
    fits_inside c.args.request.now c.in_ok-replies.replies c.in_ok-reply.reply fit c.in_ok-reply.ensures

pub returns-clause-rose : goal.returns-clause-rose
returns-clause-rose g c =
    let fit = subst (λ asked. AreFit asked c.in_ok-replies.replies) (c.as_slice.ensures ∙ c.in_ok-asked.ensures)
    c.in_ok-replies.ensures.fit in
    rw (broken_inside c.args.request.now c.in_ok-replies.replies c.in_ok-reply.reply fit c.in_ok-reply.ensures) c.in_ok-replies.ensures.rose

use Rattle.std.proofs.Common.{◌≡◌, [], drop, refl, sym, subst, ap, ◌∙◌, true}
use Rattle.std.proofs.lemmas.List.{drop-map, take_rest}
use Rattle.std.specs.Prelude.{codes, string_bytes}
use Rattle.opt_words.specs.Step.{texts}
use Rattle.tt_outside.specs.Fits.{fits}
use Rattle.tt_outside.specs.declared.request.Request.TheVariants.{Spawn}
use Rattle.not_count.specs.Inverse.{spawn}
use Rattle.not_count.proofs.inverse.replied.Goals as goal

-- the request is that of the command's words, here, with no environment of its own
pub returns-clause-value : goal.returns-clause-value
returns-clause-value g c =
    let words = c.in_ok-bytes_of.field-0 in
    let due = drop c.args.command.first (texts c.args.words.now) in
    let dir = c.in_ok-from_slice.field-0 in
    let input = c.args.input in
    let named : words ≡ due = c.in_ok-bytes_of.ensures ∙ ap texts (take_rest c.args.words.now c.args.command.first)
    ∙ sym (drop-map string_bytes c.args.command.first c.args.words.now) in
    let same : Spawn words dir c.new.result input 67108864 ≡ spawn due input 67108864 =
    ap (λ w. Spawn w dir c.new.result input 67108864) named
    ∙ ap (λ d. Spawn due d c.new.result input 67108864) c.in_ok-from_slice.ensures
    ∙ ap (λ e. Spawn due (codes ".") e input 67108864) c.new.ensures in (
      c.in_ok-reply.reply,
      subst (λ request. g.C.Crew.gave c.args.crew.now 0 [] request c.in_ok-reply.reply) same c.in_ok-reply.ensures.given,
      subst (λ request. fits request c.in_ok-reply.reply ≡ true) same c.in_ok-reply.ensures.fit,
      refl,
    )

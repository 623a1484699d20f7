use Rattle.std.proofs.Common.{◌≡◌, ◌-◌, ◌∙◌, false, ℕ, List, ap, subst, sym, drop, length, map, take}
use Rattle.std.proofs.lemmas.List.{take_rest}
use Rattle.std.specs.List.{list_any}
use Rattle.std.specs.Prelude.{String}
use Rattle.std.specs.declared.alloc.Global.{Global}
use Rattle.opt_words.specs.Step.{texts}
use Rattle.tt_outside.specs.declared.request.Reply.{Reply}
use Rattle.inner_answers.specs.Below.{IsCoreReply}
use Rattle.inner_answers.specs.Inside.{IsReplyInside, is_broken}
use Rattle.inner_answers.specs.Peeled.{level_in}
use Rattle.inner_answers.specs.Told.{inverse_all}
use Rattle.inner_answers.proofs.KeptLemmas.{reply_as, short_as}
use Rattle.inner_answers.proofs.inside.Inside.reply.Goals as goal

pub core_reply-requires-clause-short : goal.core_reply-requires-clause-short
core_reply-requires-clause-short c =
    short_as c.in-Spawn.words c.in-Spawn.dir c.in-Spawn.env c.in-Spawn.input c.in-Spawn.limit c.args.request.now c.in-Spawn.is
    c.args.self.now c.requires.of c.args.replies c.requires.fit

pub returns : goal.returns
returns c =
    let kept = c.args.self.now in
    let replies = c.args.replies in
    let limit = c.in-Spawn.limit in
    let words = c.as_slice-words.result.now in
    let cut : take (length words - kept.peeling.core) (drop kept.peeling.core words) ≡ drop kept.peeling.core kept.words =
    take_rest words kept.peeling.core ∙ ap (drop kept.peeling.core) c.as_slice-words.ensures in
    let sound : list_any is_broken replies ≡ false =
    ap (list_any is_broken) (sym c.as_slice.ensures) ∙ sym c.has_fault.ensures ∙ c.if-has_fault.false in
    let from : IsCoreReply (texts (drop kept.peeling.core kept.words)) c.in-Spawn.input limit replies c.in_ok-reply.reply =
    subst (λ (core : List (String Global)). IsCoreReply (texts core) c.in-Spawn.input limit replies c.in_ok-reply.reply) cut
    (subst (λ (input : List ℕ). IsCoreReply (texts (take (length words - kept.peeling.core) (drop kept.peeling.core words))) input limit replies c.in_ok-reply.reply)
    c.as_slice-2.ensures c.in_ok-reply.ensures) in
    let told : c.in_ok-inverse.inverse ≡ inverse_all limit (map (level_in (texts kept.words)) kept.peeling.levels) c.in_ok-reply.reply =
    c.in_ok-inverse.ensures
    ∙ (λ i. inverse_all limit (map (level_in (texts (c.as_slice-words.ensures i))) (c.as_slice-levels.ensures i)) c.in_ok-reply.reply) in
    subst (λ (reply : Reply). IsReplyInside c.args.request.now replies reply) (sym told)
    (reply_as c.in-Spawn.words c.in-Spawn.dir c.in-Spawn.env c.in-Spawn.input limit c.args.request.now c.in-Spawn.is kept c.requires.of
    replies c.in_ok-reply.reply sound from)

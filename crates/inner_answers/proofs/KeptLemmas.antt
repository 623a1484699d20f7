-- Shown: what is kept of a request asks what the request asks, and has its reply.
-- Idea: its words are those of the request, so what is below the `not`s and the `not`s themselves are the same.
-- The hard one is `reply_kept`.
use Rattle.std.proofs.Common.{◌≡◌, ℕ, ◌<◌, true, false, List, length, drop, map, sym, ap, subst, ◌∙◌}
use Rattle.std.proofs.lemmas.List.{drop-map, length-map}
use Rattle.std.specs.List.{All, list_any}
use Rattle.std.specs.Prelude.{String, string_bytes}
use Rattle.std.specs.declared.alloc.Global.{Global}
use Rattle.opt_words.specs.Step.{texts}
use Rattle.not_count.specs.declared.command.NotCommand.{NotCommand}
use Rattle.tt_outside.specs.declared.request.Pair.{Pair}
use Rattle.tt_outside.specs.declared.request.Reply.{Reply}
use Rattle.tt_outside.specs.declared.request.Request.{Request}
use Rattle.tt_outside.specs.declared.request.Request.TheVariants.{Spawn}
use Rattle.inner_answers.specs.Below.{IsCoreReply, core_asks}
use Rattle.inner_answers.specs.Files.{AreShort}
use Rattle.inner_answers.specs.Inside.{AreFit, IsOf, IsReplyInside, IsReplyOver, IsReplyUnless, asked_inside, asked_where, is_broken, is_inside}
use Rattle.inner_answers.specs.Peeled.{Level, Peeled, is_short, level_in, peel}
use Rattle.inner_answers.specs.Peeling.{IsPeeling}
use Rattle.inner_answers.specs.Told.{inverse_all}
use Rattle.inner_answers.specs.declared.inside.Inside.{Inside}
use Rattle.inner_answers.specs.declared.peeling.Peeling.{Peeling}
use Rattle.inner_answers.proofs.FitLemmas.{fit_are_short}

module _ (words : List (List ℕ)) (dir : List ℕ) (env : List Pair) (input : List ℕ) (limit : ℕ) where
  abbrev request : Request
  request = Spawn words dir env input limit

  abbrev peeled : Peeled
  peeled = peel (is_short input) 0 words

  pub kept_of : (list : List (String Global)) (peeling : Peeling) → is_inside request ≡ true → texts list ≡ words
      → IsPeeling (is_short input) (texts list) peeling → IsOf request (record { words = list; peeling = peeling })
  kept_of list peeling inside are is = record {
    inside = inside;
    words = are;
    peeling = subst (λ (ws : List (List ℕ)). IsPeeling (is_short input) ws peeling) are is;
  }

  module _ (kept : Inside) (of : IsOf request kept) where
    abbrev core : List (String Global)
    core = drop kept.peeling.core kept.words

    abbrev levels : List Level
    levels = map (level_in (texts kept.words)) kept.peeling.levels

    core_is : texts core ≡ peeled.core
    core_is = sym (drop-map string_bytes kept.peeling.core kept.words) ∙ ap (drop kept.peeling.core) of.words ∙ of.peeling.core

    levels_are : levels ≡ peeled.levels
    levels_are = ap (λ (ws : List (List ℕ)). map (level_in ws) kept.peeling.levels) of.words ∙ of.peeling.levels

    size_is : length words ≡ length kept.words
    size_is = sym (ap length of.words) ∙ length-map kept.words string_bytes

    pub within_kept : kept.peeling.core < length kept.words
    within_kept = subst (λ (size : ℕ). kept.peeling.core < size) size_is of.peeling.within

    pub programs_kept : All (λ (command : NotCommand). command.first < length kept.words) kept.peeling.levels
    programs_kept =
        subst (λ (size : ℕ). All (λ (command : NotCommand). command.first < size) kept.peeling.levels) size_is of.peeling.programs

    asked_is : asked_inside request ≡ core_asks peeled.core dir env input limit
    asked_is = ap (λ b. asked_where b request) of.inside

    pub asked_kept : core_asks (texts core) dir env input limit ≡ asked_inside request
    asked_kept = ap (λ (ws : List (List ℕ)). core_asks ws dir env input limit) core_is ∙ sym asked_is

    pub short_kept : (replies : List Reply) → AreFit (asked_inside request) replies → AreShort replies
    short_kept replies fit =
        fit_are_short peeled.core dir env input limit replies
        (subst (λ (asked : List Request). AreFit asked replies) asked_is fit)

    pub reply_kept : (replies : List Reply) (reply : Reply) → list_any is_broken replies ≡ false
        → IsCoreReply (texts core) input limit replies reply
        → IsReplyInside request replies (inverse_all limit levels reply)
    reply_kept replies reply sound is =
        let all = inverse_all limit levels reply in
        let over : IsReplyOver true request replies all = (
          reply,
          subst (λ (ws : List (List ℕ)). IsCoreReply ws input limit replies reply) core_is is,
          ap (λ (all : List Level). inverse_all limit all reply) levels_are,
        ) in
        subst (λ b. IsReplyUnless b request replies all) (sym sound)
        (subst (λ b. IsReplyOver b request replies all) (sym of.inside) over)

  -- the same of a request that is known to be one
  module _ (one : Request) (is : one ≡ request) (kept : Inside) (of : IsOf one kept) where
    as_it_is : IsOf request kept
    as_it_is = subst (λ (r : Request). IsOf r kept) is of

    pub asked_as : core_asks (texts (drop kept.peeling.core kept.words)) dir env input limit ≡ asked_inside one
    asked_as = asked_kept kept as_it_is ∙ ap asked_inside (sym is)

    pub short_as : (replies : List Reply) → AreFit (asked_inside one) replies → AreShort replies
    short_as replies fit =
        short_kept kept as_it_is replies (subst (λ (r : Request). AreFit (asked_inside r) replies) is fit)

    pub reply_as : (replies : List Reply) (reply : Reply) → list_any is_broken replies ≡ false
        → IsCoreReply (texts (drop kept.peeling.core kept.words)) input limit replies reply
        → IsReplyInside one replies (inverse_all limit (map (level_in (texts kept.words)) kept.peeling.levels) reply)
    reply_as replies reply sound from =
        subst (λ (r : Request). IsReplyInside r replies (inverse_all limit (map (level_in (texts kept.words)) kept.peeling.levels) reply))
        (sym is) (reply_kept kept as_it_is replies reply sound from)

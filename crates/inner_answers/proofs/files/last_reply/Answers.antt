use Rattle.std.proofs.Common.{◌≡◌, ◌++◌, ◌∷◌, ◌∙◌, [], List, length, refl, sym, ap, arith}
use Rattle.tt_outside.specs.declared.request.Reply.{Reply}
use Rattle.tt_outside.specs.declared.request.Reply.TheVariants.{Missing}
use Rattle.inner_answers.specs.Files.{last_or, last_reply}
use Rattle.inner_answers.proofs.files.last_reply.Goals as goal

last_pushed : (other : Reply) (front : List Reply) (reply : Reply) → last_or other (front ++ reply ∷ []) ≡ reply
last_pushed other [] reply = refl
last_pushed other (one ∷ front) reply = last_pushed one front reply

last_none : (replies : List Reply) → length replies ≡ 0 → Missing ≡ last_reply replies
last_none [] none = refl
last_none (reply ∷ replies) none = absurd (omega (arith, none))

pub returns-in-Some : goal.returns-in-Some
returns-in-Some c =
    sym (ap last_reply (sym c.into_vec-replies.ensures ∙ c.in-Some.ensures.items)
    ∙ last_pushed Missing c.pop.new.self.items c.in-Some.reply)

pub returns : goal.returns
returns c =
    last_none c.args.replies (omega (arith, ap length c.into_vec-replies.ensures, c.in-None.ensures.cases.0))

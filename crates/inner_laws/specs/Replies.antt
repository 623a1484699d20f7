-- What is known of each reply that is given inside. Own rule.
use Rattle.std.specs.Prelude.{◌≡◌, ◌↔◌, ℕ, true, List, ◌∷◌, drop, codes, Ok}
use Rattle.std.specs.List.{list_any}
use Rattle.not_count.specs.Command.{command_in}
use Rattle.not_count.specs.declared.command.NotCommand.{NotCommand}
use Rattle.tt_outside.specs.Fits.{fits}
use Rattle.tt_outside.specs.declared.request.Pair.{Pair}
use Rattle.tt_outside.specs.declared.request.Reply.{Reply}
use Rattle.tt_outside.specs.declared.request.Request.{Request}
use Rattle.tt_outside.specs.declared.request.Request.TheVariants.{Spawn}
use Rattle.inner_answers.specs.Inside.{AreFit, IsReplyInside, asked_inside, is_broken, is_inside}
use Rattle.inner_answers.specs.Peeled.{is_short, level_in}
use Rattle.inner_answers.specs.Told.{inverse_reply}

-- Law: over replies that fit what is asked, the reply fits the request.
abbrev pub RepliesFit : Type 0
RepliesFit =
    (request : Request) (replies : List Reply) (reply : Reply) → AreFit (asked_inside request) replies
    → IsReplyInside request replies reply → fits request reply ≡ true

-- Law: it is a fault exactly where one of the replies is.
abbrev pub FaultsAreTold : Type 0
FaultsAreTold =
    (request : Request) (replies : List Reply) (reply : Reply) → AreFit (asked_inside request) replies
    → IsReplyInside request replies reply → is_broken reply ≡ list_any is_broken replies

-- Law: equal replies leave one reply.
abbrev pub ReplyIsOne : Type 0
ReplyIsOne =
    (request : Request) (replies : List Reply) (one other : Reply) → IsReplyInside request replies one
    → IsReplyInside request replies other → one ≡ other

-- two requests ask the same, and the reply to the first is the inverse of the reply to the second
pub record IsInverse (outer inner : Request) (invert : Reply → Reply) : Type 0 where
  pub asked : asked_inside outer ≡ asked_inside inner
  pub reply : (replies : List Reply) (reply : Reply)
      → IsReplyInside outer replies reply ↔ ((below : Reply) × IsReplyInside inner replies below × (reply ≡ invert below))

-- Law: a `not` that accepts its words and the input has the inverse of the reply to its command.
abbrev pub NotInverts : Type 0
NotInverts =
    (words : List (List ℕ)) (dir : List ℕ) (env : List Pair) (input : List ℕ) (limit : ℕ) (command : NotCommand)
    → is_inside (Spawn (codes "not" ∷ words) dir env input limit) ≡ true → is_short input ≡ true → command_in words ≡ Ok command
    → IsInverse (Spawn (codes "not" ∷ words) dir env input limit) (Spawn (drop command.first words) dir env input limit)
    (inverse_reply limit (level_in words command))

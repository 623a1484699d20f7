-- Shown: a reply that is given inside fits its request, and is a fault exactly where a reply of the hand is one. Idea: an answer under a
-- limit fits it and is no fault, and each `not` keeps that of the reply below it. The hard one is suits_answer: what fits one request to
-- run a program fits each other with that limit.
use Rattle.std.proofs.Common.{◌≡◌, ℕ, Bool, true, false, true≢false, ◌&&◌, ◌||◌, if◌then◌else◌, nat_le, List, [], ◌∷◌, length, drop, Option, Some, None, refl, sym, ap, subst, ◌∙◌}
use Rattle.std.specs.List.{list_any}
use Rattle.not_count.specs.Inverse.{reply_answer}
use Rattle.tt_outside.specs.Fits.{fits}
use Rattle.tt_outside.specs.declared.request.Finish.TheVariants.{Code}
use Rattle.tt_outside.specs.declared.request.Pair.{Pair}
use Rattle.tt_outside.specs.declared.request.Reply.{Reply}
use Rattle.tt_outside.specs.declared.request.Reply.TheVariants as kinds
use Rattle.tt_outside.specs.declared.request.Request.{Request}
use Rattle.tt_outside.specs.declared.request.Request.TheVariants.{ReadFile, MakeDir, WriteFile, Spawn}
use Rattle.tt_outside.specs.declared.request.Stream.TheVariants.{File, Out, Err as ErrStream}
use Rattle.tt_run.specs.declared.answer.Answer.{Answer}
use Rattle.inner_answers.specs.Below.{IsToolReply, tool_asks}
use Rattle.inner_answers.specs.Files.{last_or, last_reply}
use Rattle.inner_answers.specs.Inside.{AreFit, IsReplyInside, IsReplyOver, IsReplyUnless, asked_inside, asked_where, is_broken, is_inside}
use Rattle.inner_answers.specs.Peeled.{Level, is_short, peel, tool_in}
use Rattle.inner_answers.specs.Told.{count_answer, inverse_all, inverse_reply, refused_answer, reply_within}
use Rattle.inner_answers.specs.declared.tool.Tool.{Tool}
use Rattle.inner_answers.specs.declared.tool.Tool.TheVariants.{FileCheck, Count, Not}

-- ---- a reply that a program under a limit may get

-- it fits each request to run one
abbrev Suits : ℕ → Reply → Type 0
Suits limit reply =
    (words : List (List ℕ)) (dir : List ℕ) (env : List Pair) (input : List ℕ) → fits (Spawn words dir env input limit) reply ≡ true

suits_one : (words : List (List ℕ)) (dir : List ℕ) (env : List Pair) (input : List ℕ) (limit : ℕ) (reply : Reply)
    → fits (Spawn words dir env input limit) reply ≡ true → Suits limit reply
suits_one words dir env input limit (kinds.Status finish out err) fit others _ _ _ = fit
suits_one words dir env input limit kinds.Missing fit others _ _ _ = refl
suits_one words dir env input limit (kinds.TooLarge Out) fit others _ _ _ = refl
suits_one words dir env input limit (kinds.TooLarge ErrStream) fit others _ _ _ = refl
suits_one words dir env input limit (kinds.TooLarge File) fit others _ _ _ = fit
suits_one words dir env input limit kinds.Broken fit others _ _ _ = refl
suits_one words dir env input limit (kinds.Bytes bytes) fit others _ _ _ = fit
suits_one words dir env input limit kinds.Written fit others _ _ _ = fit

module _ (limit : ℕ) where
  -- an answer suits
  suits_answer : (answer : Answer) → Suits limit (reply_within limit answer)
  suits_answer answer words dir env input =
      each (nat_le (length answer.out) limit) (nat_le (length answer.err) limit) refl refl
    where
      each : (out err : Bool) → nat_le (length answer.out) limit ≡ out → nat_le (length answer.err) limit ≡ err
          → fits (Spawn words dir env input limit)
          (if out then (if err then kinds.Status (Code answer.status) answer.out answer.err else kinds.TooLarge ErrStream)
          else kinds.TooLarge Out) ≡ true
      each true true out err = (λ i. out i && err i)
      each true false out err = refl
      each false err out is = refl

  -- and is no fault
  answer_is_sound : (answer : Answer) → is_broken (reply_within limit answer) ≡ false
  answer_is_sound answer = each (nat_le (length answer.out) limit) (nat_le (length answer.err) limit)
    where
      each : (out err : Bool) → is_broken
          (if out then (if err then kinds.Status (Code answer.status) answer.out answer.err else kinds.TooLarge ErrStream)
          else kinds.TooLarge Out) ≡ false
      each true true = refl
      each true false = refl
      each false err = refl

  -- so does the inverse of what suits
  suits_inverse : (level : Level) (reply : Reply) → Suits limit reply → Suits limit (inverse_reply limit level reply)
  suits_inverse level kinds.Broken suits = suits
  suits_inverse level (kinds.TooLarge stream) suits = suits
  suits_inverse level (kinds.Bytes bytes) suits = suits_answer (reply_answer level.name level.crash (kinds.Bytes bytes))
  suits_inverse level kinds.Written suits = suits_answer (reply_answer level.name level.crash kinds.Written)
  suits_inverse level kinds.Missing suits = suits_answer (reply_answer level.name level.crash kinds.Missing)
  suits_inverse level (kinds.Status finish out err) suits =
      suits_answer (reply_answer level.name level.crash (kinds.Status finish out err))

  suits_all : (levels : List Level) (reply : Reply) → Suits limit reply → Suits limit (inverse_all limit levels reply)
  suits_all [] reply suits = suits
  suits_all (level ∷ levels) reply suits = suits_inverse level (inverse_all limit levels reply) (suits_all levels reply suits)

  -- and the inverse of what is no fault is none
  sound_inverse : (level : Level) (reply : Reply) → is_broken reply ≡ false → is_broken (inverse_reply limit level reply) ≡ false
  sound_inverse level kinds.Broken sound = sound
  sound_inverse level (kinds.TooLarge stream) sound = refl
  sound_inverse level (kinds.Bytes bytes) sound = answer_is_sound (reply_answer level.name level.crash (kinds.Bytes bytes))
  sound_inverse level kinds.Written sound = answer_is_sound (reply_answer level.name level.crash kinds.Written)
  sound_inverse level kinds.Missing sound = answer_is_sound (reply_answer level.name level.crash kinds.Missing)
  sound_inverse level (kinds.Status finish out err) sound =
      answer_is_sound (reply_answer level.name level.crash (kinds.Status finish out err))

  sound_all : (levels : List Level) (reply : Reply) → is_broken reply ≡ false → is_broken (inverse_all limit levels reply) ≡ false
  sound_all [] reply sound = sound
  sound_all (level ∷ levels) reply sound = sound_inverse level (inverse_all limit levels reply) (sound_all levels reply sound)

-- ---- the reply below all `not`s

-- the last of replies that fit one request fits it
last_fits : (request : Request) (replies : List Reply) → AreFit (request ∷ []) replies → fits request (last_reply replies) ≡ true
last_fits request [] fit = absurd fit
last_fits request (reply ∷ []) fit = fit.0
last_fits request (reply ∷ another ∷ replies) fit = absurd fit.1

none_of : (one other : Bool) → (one || other) ≡ false → (one ≡ false) × (other ≡ false)
none_of false other none = (refl, none)
none_of true other none = absurd (true≢false none)

last_sound : (other : Reply) (replies : List Reply) → is_broken other ≡ false → list_any is_broken replies ≡ false
    → is_broken (last_or other replies) ≡ false
last_sound other [] sound none = sound
last_sound other (reply ∷ replies) sound none =
    let parts = none_of (is_broken reply) (list_any is_broken replies) none in
    last_sound reply replies parts.0 parts.1

tool_suits : (tool : Option Tool) (core : List (List ℕ)) (dir : List ℕ) (env : List Pair) (input : List ℕ) (limit : ℕ)
    (replies : List Reply) (reply : Reply) → AreFit (tool_asks tool core dir env input limit) replies
    → IsToolReply tool core input limit replies reply → Suits limit reply
tool_suits (Some FileCheck) core dir env input limit replies reply fit (answer, is, told) =
    subst (Suits limit) (sym told) (suits_answer limit answer)
tool_suits (Some Count) core dir env input limit replies reply fit told =
    subst (Suits limit) (sym told) (suits_answer limit (count_answer (drop 1 core) input))
tool_suits (Some Not) core dir env input limit replies reply fit told =
    subst (Suits limit) (sym told) (suits_answer limit (refused_answer (drop 1 core)))
tool_suits None core dir env input limit replies reply fit told =
    subst (Suits limit) (sym told) (suits_one core dir env input limit (last_reply replies) (last_fits (Spawn core dir env input limit) replies fit))

tool_sound : (tool : Option Tool) (core : List (List ℕ)) (input : List ℕ) (limit : ℕ) (replies : List Reply) (reply : Reply)
    → list_any is_broken replies ≡ false → IsToolReply tool core input limit replies reply → is_broken reply ≡ false
tool_sound (Some FileCheck) core input limit replies reply none (answer, is, told) =
    ap is_broken told ∙ answer_is_sound limit answer
tool_sound (Some Count) core input limit replies reply none told =
    ap is_broken told ∙ answer_is_sound limit (count_answer (drop 1 core) input)
tool_sound (Some Not) core input limit replies reply none told =
    ap is_broken told ∙ answer_is_sound limit (refused_answer (drop 1 core))
tool_sound None core input limit replies reply none told = ap is_broken told ∙ last_sound kinds.Missing replies refl none

-- ---- the reply

fit_last : (request : Request) (replies : List Reply) (reply : Reply) → AreFit (request ∷ []) replies
    → reply ≡ last_reply replies → fits request reply ≡ true
fit_last request replies reply fit told = ap (fits request) told ∙ last_fits request replies fit

fit_over : (inside : Bool) (request : Request) (replies : List Reply) (reply : Reply)
    → AreFit (asked_where inside request) replies → IsReplyOver inside request replies reply → fits request reply ≡ true
fit_over false request replies reply fit told = fit_last request replies reply fit told
fit_over true (Spawn words dir env input limit) replies reply fit (core, is, told) =
    let peeled = peel (is_short input) 0 words in
    let suits = tool_suits (tool_in peeled.core) peeled.core dir env input limit replies core fit is in
    ap (fits (Spawn words dir env input limit)) told ∙ suits_all limit peeled.levels core suits words dir env input
fit_over true (ReadFile path limit) replies reply fit told = fit_last (ReadFile path limit) replies reply fit told
fit_over true (MakeDir path) replies reply fit told = fit_last (MakeDir path) replies reply fit told
fit_over true (WriteFile path bytes append) replies reply fit told =
    fit_last (WriteFile path bytes append) replies reply fit told

broken_fits : (request : Request) → fits request kinds.Broken ≡ true
broken_fits (ReadFile path limit) = refl
broken_fits (MakeDir path) = refl
broken_fits (WriteFile path bytes append) = refl
broken_fits (Spawn words dir env input limit) = refl

fit_unless : (broken : Bool) (request : Request) (replies : List Reply) (reply : Reply)
    → AreFit (asked_inside request) replies → IsReplyUnless broken request replies reply → fits request reply ≡ true
fit_unless true request replies reply fit told = ap (fits request) told ∙ broken_fits request
fit_unless false request replies reply fit told = fit_over (is_inside request) request replies reply fit told

pub fits_inside : (request : Request) (replies : List Reply) (reply : Reply) → AreFit (asked_inside request) replies
    → IsReplyInside request replies reply → fits request reply ≡ true
fits_inside request replies reply fit told = fit_unless (list_any is_broken replies) request replies reply fit told

sound_last : (replies : List Reply) (reply : Reply) → list_any is_broken replies ≡ false → reply ≡ last_reply replies
    → is_broken reply ≡ false
sound_last replies reply none told = ap is_broken told ∙ last_sound kinds.Missing replies refl none

sound_over : (inside : Bool) (request : Request) (replies : List Reply) (reply : Reply) → list_any is_broken replies ≡ false
    → IsReplyOver inside request replies reply → is_broken reply ≡ false
sound_over false request replies reply none told = sound_last replies reply none told
sound_over true (Spawn words dir env input limit) replies reply none (core, is, told) =
    let peeled = peel (is_short input) 0 words in
    ap is_broken told
    ∙ sound_all limit peeled.levels core (tool_sound (tool_in peeled.core) peeled.core input limit replies core none is)
sound_over true (ReadFile path limit) replies reply none told = sound_last replies reply none told
sound_over true (MakeDir path) replies reply none told = sound_last replies reply none told
sound_over true (WriteFile path bytes append) replies reply none told = sound_last replies reply none told

broken_unless : (broken : Bool) (request : Request) (replies : List Reply) (reply : Reply)
    → list_any is_broken replies ≡ broken → IsReplyUnless broken request replies reply → is_broken reply ≡ broken
broken_unless true request replies reply is told = ap is_broken told
broken_unless false request replies reply none told = sound_over (is_inside request) request replies reply none told

pub broken_inside : (request : Request) (replies : List Reply) (reply : Reply) → AreFit (asked_inside request) replies
    → IsReplyInside request replies reply → is_broken reply ≡ list_any is_broken replies
broken_inside request replies reply fit told = broken_unless (list_any is_broken replies) request replies reply refl told

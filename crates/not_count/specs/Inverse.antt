-- What `not` makes of the end of a program. After the tool of that name in LLVM's tree: it turns success and failure round,
-- and with `--crash` it asks for an end by a signal. Own rule: the texts, the limits and the statuses 2 and 3.
use Rattle.std.specs.Prelude.{◌≡◌, ◌⊎◌, ⊤, ℕ, ◌^◌, ◌<◌, ◌≤◌, ◌==◌, Bool, true, false, if◌then◌else◌, List, [], ◌∷◌, ◌++◌, drop, codes, slice_index_or, Result, Ok, Err, MatchResult}
use Rattle.tt_base.specs.declared.memory.NoMemory.{NoMemory}
use Rattle.opt_words.specs.Fault.{text_before, text_behind, word_of}
use Rattle.tt_outside.specs.Faults.{Rose}
use Rattle.tt_outside.specs.Gave.{Gave}
use Rattle.tt_outside.specs.Fits.{fits}
use Rattle.tt_outside.specs.declared.crew.Left.{Left}
use Rattle.tt_outside.specs.declared.request.Finish.{Finish}
use Rattle.tt_outside.specs.declared.request.Finish.TheVariants.{Code, Signal}
use Rattle.tt_outside.specs.declared.request.Request.{Request}
use Rattle.tt_outside.specs.declared.request.Request.TheVariants.{Spawn}
use Rattle.tt_outside.specs.declared.request.Reply.{Reply}
use Rattle.tt_outside.specs.declared.request.Reply.TheVariants as replies
use Rattle.tt_run.specs.Frame.{error_text}
use Rattle.tt_run.specs.Run.{Answers, Crew, Source, SourceRead, SourceRests, Stream}
use Rattle.tt_run.specs.declared.answer.Answer.{Answer}
use Rattle.tt_run.specs.declared.reading.Reading.{Reading}
use Rattle.tt_run.specs.declared.reading.Reading.TheVariants as readings
use Rattle.not_count.specs.Command.{IsToldWord, command_in}
use Rattle.not_count.specs.declared.command.NotCommand.{NotCommand}
use Rattle.not_count.specs.declared.command.NoCommand.{NoCommand}
use Rattle.not_count.specs.declared.command.NoCommand.TheVariants.{FaultyWord, Missing}
use Rattle.not_count.specs.declared.inverse.Inverse.{Inverse}
use Rattle.not_count.specs.declared.inverse.Inverse.TheVariants as inverses

-- ---- what a run comes to

-- the request that runs a command: its words, here, with no environment of its own, and with the whole input
abbrev pub spawn : List (List ℕ) → List ℕ → ℕ → Request
spawn words input limit = Spawn words (codes ".") [] input limit

-- a command with an input came to a reply, one that may be given to the first request of test 0 and fits it
abbrev pub Replied : Gave → ℕ → List (List ℕ) → NotCommand → List ℕ → Inverse → Type 0
Replied gave limit words command input outcome =
    (reply : Reply) × gave 0 [] (spawn (drop command.first words) input limit) reply
    × (fits (spawn (drop command.first words) input limit) reply ≡ true) × (outcome ≡ inverses.Replied command reply)

-- what was read came to this
abbrev pub ReadTo : Gave → ℕ → List (List ℕ) → NotCommand → Reading → Inverse → Type 0
ReadTo gave limit words command (readings.Whole input) outcome = Replied gave limit words command input outcome
ReadTo gave limit words command readings.TooLarge outcome = outcome ≡ inverses.TooLarge
ReadTo gave limit words command readings.Failed outcome = outcome ≡ inverses.Unread
ReadTo gave limit words command readings.Missing outcome = ⊥

-- the words are refused and the input is left alone, or the input is read to its end, within a limit, and the command run
abbrev pub OutcomeFrom : Source → Gave → ℕ → List (List ℕ) → Result NotCommand NoCommand → Inverse → Type 0
OutcomeFrom input gave limit words (Ok command) outcome =
    (read : Reading) × SourceRead input limit read × ReadTo gave limit words command read outcome
OutcomeFrom input gave limit words (Err refusal) outcome = SourceRests input × (outcome ≡ inverses.Refused refusal)

-- what is told has its word among so many
abbrev pub IsToldInverse : ℕ → Inverse → Type 0
IsToldInverse count (inverses.Refused refusal) = IsToldWord count refusal
IsToldInverse count inverses.TooLarge = ⊤
IsToldInverse count inverses.Unread = ⊤
IsToldInverse count (inverses.Replied command reply) = command.first < count

-- ---- the hands that a crew dismissed

-- one hand more: it began test 0 and nothing else, was asked once, and counted a fault where the reply is one
abbrev pub AskedOnce : List Left → List Left → Reply → Type 0
AskedOnce old new reply =
    (faults : ℕ) × (new ≡ old ++ record { begun = 0 ∷ []; asked = 1; faults = faults } ∷ [])
    × (reply ≡ replies.Broken → Rose 0 faults)

-- at most one hand more, which began test 0 and nothing else, and was asked at most once
abbrev pub AtMostOneHand : List Left → List Left → Type 0
AtMostOneHand old new =
    (new ≡ old) ⊎ ((left : Left) × (new ≡ old ++ left ∷ []) × (left.begun ≡ 0 ∷ []) × (left.asked ≤ 1))

-- a hand more counted a fault
abbrev pub HandFailed : List Left → List Left → Type 0
HandFailed old new = (left : Left) × (new ≡ old ++ left ∷ []) × Rose 0 left.faults

abbrev pub HandsOf : List Left → List Left → Inverse → Type 0
HandsOf old new (inverses.Replied command reply) = AskedOnce old new reply
HandsOf old new (inverses.Refused refusal) = new ≡ old
HandsOf old new inverses.TooLarge = new ≡ old
HandsOf old new inverses.Unread = new ≡ old

-- what is so of the hands where a call answered; where it lacked memory there is at most one more
abbrev pub LeavesHands : {A : Type 0} → (List Left → List Left → A → Type 0) → List Left → List Left → Result A NoMemory → Type 0
LeavesHands Hands old new result = MatchResult result (Hands old new) (λ fault. AtMostOneHand old new)

-- ---- what is told of it, and the status

-- a program failed with a code other than 0, or crashed by a signal
abbrev pub failed : Finish → Bool
failed (Code code) = if code == 0 then false else true
failed (Signal signal) = false

abbrev pub crashed : Finish → Bool
crashed (Code code) = false
crashed (Signal signal) = true

-- 0 where a program crashed, if that is asked for, and else where it failed
abbrev pub status_at : Bool → Finish → ℕ
status_at true finish = if crashed finish then 0 else 1
status_at false finish = if failed finish then 0 else 1

-- the answer with a message and nothing else
abbrev pub telling : ℕ → List ℕ → Answer
telling status text = record { out = []; err = error_text (codes "not") text; status = status }

abbrev pub word_text : List ℕ → List ℕ → List ℕ → List ℕ
word_text before word behind = before ++ word ++ behind

abbrev pub no_command_text : List (List ℕ) → NoCommand → List ℕ
no_command_text words (FaultyWord fault) =
    word_text (text_before fault) (slice_index_or words (word_of fault) []) (text_behind fault)
no_command_text words Missing = codes "a command is needed"

-- what is told of a reply to the program of a name: what it wrote is written on
abbrev pub reply_answer : List ℕ → Bool → Reply → Answer
reply_answer name crash (replies.Status finish out err) = record { out = out; err = err; status = status_at crash finish }
reply_answer name crash replies.Missing = telling 1 (word_text (codes "no such program '") name (codes "'"))
reply_answer name crash (replies.TooLarge stream) = telling 2 (codes "output too large")
reply_answer name crash replies.Broken = telling 3 (word_text (codes "cannot run '") name (codes "'"))
reply_answer name crash (replies.Bytes bytes) = telling 3 (word_text (codes "cannot run '") name (codes "'"))
reply_answer name crash replies.Written = telling 3 (word_text (codes "cannot run '") name (codes "'"))

abbrev pub inverse_answer : List (List ℕ) → Inverse → Answer
inverse_answer words (inverses.Refused refusal) = telling 2 (no_command_text words refusal)
inverse_answer words inverses.TooLarge = telling 2 (codes "input too large")
inverse_answer words inverses.Unread = telling 3 (codes "cannot read '<stdin>'")
inverse_answer words (inverses.Replied command reply) =
    reply_answer (slice_index_or words command.first []) command.crash reply

-- ---- a run

-- what words, an input and a crew come to gives this answer
abbrev pub AnswerOf : List (List ℕ) → Source → Crew → Answer → Type 0
AnswerOf words input crew answer =
    (outcome : Inverse) × OutcomeFrom input crew.gave (2 ^ 26) words (command_in words) outcome
    × HandsOf crew.old crew.new outcome × (answer ≡ inverse_answer words outcome)

-- that answer is told, and gives the status; but for want of memory
abbrev pub Inverts : List (List ℕ) → Source → Crew → ℕ → Stream → Stream → Type 0
Inverts words input crew result out err = Answers (codes "not") (AnswerOf words input crew) result out err

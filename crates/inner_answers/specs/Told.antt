-- What is answered, as a reply to a request. Own rule: a stream that is longer than the request's limit is told in place of the answer,
-- out before err.
use Rattle.std.specs.Prelude.{ℕ, ◌^◌, nat_le, if◌then◌else◌, List, [], ◌∷◌, length, Result, Ok, Err}
use Rattle.not_count.specs.Asked.{asked}
use Rattle.not_count.specs.Command.{command_in}
use Rattle.not_count.specs.Count.{status_of, text_of}
use Rattle.not_count.specs.Inverse.{inverse_answer, reply_answer}
use Rattle.not_count.specs.Lines.{lines_of}
use Rattle.not_count.specs.declared.asked.CountRefusal.{CountRefusal}
use Rattle.not_count.specs.declared.command.NotCommand.{NotCommand}
use Rattle.not_count.specs.declared.command.NoCommand.{NoCommand}
use Rattle.not_count.specs.declared.count.Outcome.{Outcome}
use Rattle.not_count.specs.declared.count.Outcome.TheVariants as outcomes
use Rattle.not_count.specs.declared.inverse.Inverse.{Inverse}
use Rattle.not_count.specs.declared.inverse.Inverse.TheVariants as inverses
use Rattle.not_count.specs.declared.lines.Counted.{Counted}
use Rattle.not_count.specs.declared.lines.Counted.TheVariants as counts
use Rattle.tt_outside.specs.declared.request.Finish.TheVariants.{Code}
use Rattle.tt_outside.specs.declared.request.Reply.{Reply}
use Rattle.tt_outside.specs.declared.request.Reply.TheVariants.{Status, TooLarge, Broken}
use Rattle.tt_outside.specs.declared.request.Stream.TheVariants.{Out, Err as ErrStream}
use Rattle.tt_run.specs.declared.answer.Answer.{Answer}
use Rattle.inner_answers.specs.Peeled.{Level}

-- an answer as a reply, under a limit
abbrev pub reply_within : ℕ → Answer → Reply
reply_within limit answer =
    if nat_le (length answer.out) limit
    then (if nat_le (length answer.err) limit then Status (Code answer.status) answer.out answer.err else TooLarge ErrStream)
    else TooLarge Out

-- ---- count

abbrev pub counted : List ℕ → Counted
counted input = if nat_le (length input) (2 ^ 40) then counts.Lines (lines_of input) else counts.TooLong

abbrev pub compared : Result ℕ CountRefusal → List ℕ → Outcome
compared (Ok wanted) input = outcomes.Compared wanted (counted input)
compared (Err refusal) input = outcomes.Refused refusal

-- what `count` tells of an outcome
abbrev pub told_of : List (List ℕ) → Outcome → Answer
told_of words outcome = record { out = []; err = text_of words outcome; status = status_of outcome }

abbrev pub count_answer : List (List ℕ) → List ℕ → Answer
count_answer words input = told_of words (compared (asked words) input)

-- ---- not

-- a `not` that isn't peeled refuses its words, or else its input
abbrev pub refused : Result NotCommand NoCommand → Inverse
refused (Ok command) = inverses.TooLarge
refused (Err refusal) = inverses.Refused refusal

abbrev pub refused_answer : List (List ℕ) → Answer
refused_answer words = inverse_answer words (refused (command_in words))

-- the inverse of the reply to its program; a fault and a stream that is too large are told on
abbrev pub inverse_reply : ℕ → Level → Reply → Reply
inverse_reply limit level Broken = Broken
inverse_reply limit level (TooLarge stream) = TooLarge stream
inverse_reply limit level reply = reply_within limit (reply_answer level.name level.crash reply)

-- what all of them make of the reply below them
abbrev pub inverse_all : ℕ → List Level → Reply → Reply
inverse_all limit [] reply = reply
inverse_all limit (level ∷ levels) reply = inverse_reply limit level (inverse_all limit levels reply)

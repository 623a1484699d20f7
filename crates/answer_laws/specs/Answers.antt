-- The answer of filecheck is a function of its words, of what reading the check file gave, and of what reading the input gave; and
-- where the streams have room it is what is written. Own rule.
use Rattle.std.specs.Prelude.{◌≡◌, ◌≤◌, ℕ, List, length, Result, Ok, Err}
use Rattle.tt_run.specs.Run.{Stream, Taken, Written}
use Rattle.tt_run.specs.declared.answer.Answer.{Answer}
use Rattle.tt_run.specs.declared.reading.Reading.{Reading}
use Rattle.filecheck_words.specs.declared.fault.WordsFault.{WordsFault}
use Rattle.filecheck_words.specs.declared.job.Job.{Job}
use Rattle.filecheck_words.specs.declared.job.Job.TheVariants.{Generate}
use Rattle.filecheck_tool.specs.Answer.{IsAnswer}

-- Law: they come to one answer.
abbrev pub AnswerIsOne : Type 0
AnswerIsOne =
    (job : Result Job WordsFault) (file read : Reading) (one other : Answer) → IsAnswer job file read one
    → IsAnswer job file read other → one ≡ other

-- a job has the same answers, whatever reading gave
abbrev pub IsUnread : Result Job WordsFault → Type 0
IsUnread job =
    (file read other another : Reading) (answer : Answer) → IsAnswer job file read answer → IsAnswer job other another answer

-- Law: where the words are refused, and where both texts are made, what reading gave doesn't count.
pub record UnaskedIsFree : Type 0 where
  pub refused : (fault : WordsFault) → IsUnread (Err fault)
  pub made : (count : ℕ) → IsUnread (Ok (Generate count))

-- Law: where both streams have room for an answer, it is written whole, and its status is the run's.
abbrev pub RoomLeavesOne : Type 0
RoomLeavesOne =
    (fault : List ℕ) (answer : Answer) (status : ℕ) (out err : Stream) → Written fault answer status out err
    → length answer.out ≤ out.room → length answer.err ≤ err.room
    → (status ≡ answer.status) × Taken answer.out out × Taken answer.err err

-- An answer of filecheck with notes between its messages.
-- Own rule: notes stand behind messages, and leave each byte of the answer where it is.
use Rattle.std.specs.Prelude.{ℕ, List, ◌++◌, Result}
use Rattle.std.specs.List.{flat_map}
use Rattle.filecheck_tool.specs.Answer.{IsAnswer}
use Rattle.filecheck_words.specs.declared.fault.WordsFault.{WordsFault}
use Rattle.filecheck_words.specs.declared.job.Job.{Job}
use Rattle.tt_run.specs.declared.answer.Answer.{Answer}
use Rattle.tt_run.specs.declared.reading.Reading.{Reading}
use Rattle.check_explain.specs.declared.explained.Explained.{Explained}
use Rattle.check_explain.specs.declared.explained.ExplainedPart.{ExplainedPart}

-- what filecheck tells in a part
abbrev pub told_in : ExplainedPart → List ℕ
told_in part = part.told

-- what a part has in all, its notes behind
abbrev pub all_in : ExplainedPart → List ℕ
all_in part = part.told ++ part.notes

-- the answer without its notes
abbrev pub plain : Explained → Answer
plain explained =
    record { out = explained.out; err = flat_map told_in explained.parts; status = explained.status }

-- the answer with its notes
abbrev pub whole : Explained → Answer
whole explained =
    record { out = explained.out; err = flat_map all_in explained.parts; status = explained.status }

-- words and both readings come to an answer that is this one without its notes
abbrev pub Explains : Result Job WordsFault → Reading → Reading → Explained → Type 0
Explains job file read explained = IsAnswer job file read (plain explained)

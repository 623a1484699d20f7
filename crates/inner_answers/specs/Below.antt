-- Words below all `not`s: what they ask of the hand, and the reply to them.
use Rattle.std.specs.Prelude.{◌≡◌, ℕ, List, [], ◌∷◌, drop, Option, Some, None}
use Rattle.filecheck_tool.specs.Answer.{IsAnswer, names_of}
use Rattle.filecheck_tool.specs.declared.file_names.Names.{Names}
use Rattle.filecheck_words.specs.Job.{asked_by}
use Rattle.tt_outside.specs.declared.request.Pair.{Pair}
use Rattle.tt_outside.specs.declared.request.Reply.{Reply}
use Rattle.tt_outside.specs.declared.request.Request.{Request}
use Rattle.tt_outside.specs.declared.request.Request.TheVariants.{Spawn}
use Rattle.tt_run.specs.declared.answer.Answer.{Answer}
use Rattle.inner_answers.specs.Files.{check_read, files_asked, input_read, last_reply, names_or_none}
use Rattle.inner_answers.specs.Peeled.{tool_in}
use Rattle.inner_answers.specs.Told.{count_answer, refused_answer, reply_within}
use Rattle.inner_answers.specs.declared.tool.Tool.{Tool}
use Rattle.inner_answers.specs.declared.tool.Tool.TheVariants.{FileCheck, Count, Not}

-- the files that words of FileCheck name
abbrev pub names_in : List (List ℕ) → Names
names_in words = names_or_none (names_of (asked_by words))

-- what the words of a tool, or else of a program, ask of the hand
abbrev pub tool_asks : Option Tool → List (List ℕ) → List ℕ → List Pair → List ℕ → ℕ → List Request
tool_asks (Some FileCheck) core dir env input limit = files_asked dir (names_in (drop 1 core))
tool_asks (Some Count) core dir env input limit = []
tool_asks (Some Not) core dir env input limit = []
tool_asks None core dir env input limit = Spawn core dir env input limit ∷ []

abbrev pub core_asks : List (List ℕ) → List ℕ → List Pair → List ℕ → ℕ → List Request
core_asks core dir env input limit = tool_asks (tool_in core) core dir env input limit

-- FileCheck's answer to words, an input and replies about its files
abbrev pub IsCheckAnswer : List (List ℕ) → List ℕ → List Reply → Answer → Type 0
IsCheckAnswer words input replies answer =
    IsAnswer (asked_by words) (check_read (names_in words) replies) (input_read (names_in words) input replies) answer

abbrev pub IsCheckReply : List (List ℕ) → List ℕ → ℕ → List Reply → Reply → Type 0
IsCheckReply words input limit replies reply =
    (answer : Answer) × IsCheckAnswer words input replies answer × (reply ≡ reply_within limit answer)

-- the reply to the words of a tool, or else of a program, over replies of the hand, none of which is a fault
abbrev pub IsToolReply : Option Tool → List (List ℕ) → List ℕ → ℕ → List Reply → Reply → Type 0
IsToolReply (Some FileCheck) core input limit replies reply = IsCheckReply (drop 1 core) input limit replies reply
IsToolReply (Some Count) core input limit replies reply = reply ≡ reply_within limit (count_answer (drop 1 core) input)
IsToolReply (Some Not) core input limit replies reply = reply ≡ reply_within limit (refused_answer (drop 1 core))
IsToolReply None core input limit replies reply = reply ≡ last_reply replies

abbrev pub IsCoreReply : List (List ℕ) → List ℕ → ℕ → List Reply → Reply → Type 0
IsCoreReply core input limit replies reply = IsToolReply (tool_in core) core input limit replies reply

-- A reply that is given inside is one: FileCheck's answer is, and all else is told by values.
use Rattle.std.proofs.Common.{◌≡◌, ℕ, Bool, true, false, List, drop, Option, Some, None, sym, ap, ◌∙◌}
use Rattle.std.specs.List.{list_any}
use Rattle.answer_laws.proofs.AnswerLemmas.{answer_is_one}
use Rattle.filecheck_words.specs.Job.{asked_by}
use Rattle.tt_outside.specs.declared.request.Reply.{Reply}
use Rattle.tt_outside.specs.declared.request.Request.{Request}
use Rattle.tt_outside.specs.declared.request.Request.TheVariants.{ReadFile, MakeDir, WriteFile, Spawn}
use Rattle.inner_answers.specs.Below.{IsToolReply, names_in}
use Rattle.inner_answers.specs.Files.{check_read, input_read}
use Rattle.inner_answers.specs.Inside.{IsReplyInside, IsReplyOver, IsReplyUnless, is_broken, is_inside}
use Rattle.inner_answers.specs.Peeled.{is_short, peel, tool_in}
use Rattle.inner_answers.specs.Told.{inverse_all, reply_within}
use Rattle.inner_answers.specs.declared.tool.Tool.{Tool}
use Rattle.inner_answers.specs.declared.tool.Tool.TheVariants.{FileCheck, Count, Not}

tool_one : (tool : Option Tool) (core : List (List ℕ)) (input : List ℕ) (limit : ℕ) (replies : List Reply) (one other : Reply)
    → IsToolReply tool core input limit replies one → IsToolReply tool core input limit replies other → one ≡ other
tool_one (Some FileCheck) core input limit replies one other (answer, is, told) (another, also, told_too) =
    let names = names_in (drop 1 core) in
    let same = answer_is_one (asked_by (drop 1 core)) (check_read names replies) (input_read names input replies) answer another
    is also in
    told ∙ ap (reply_within limit) same ∙ sym told_too
tool_one (Some Count) core input limit replies one other told told_too = told ∙ sym told_too
tool_one (Some Not) core input limit replies one other told told_too = told ∙ sym told_too
tool_one None core input limit replies one other told told_too = told ∙ sym told_too

one_over : (inside : Bool) (request : Request) (replies : List Reply) (one other : Reply)
    → IsReplyOver inside request replies one → IsReplyOver inside request replies other → one ≡ other
one_over false request replies one other told told_too = told ∙ sym told_too
one_over true (Spawn words dir env input limit) replies one other (a, is, told) (b, also, told_too) =
    let peeled = peel (is_short input) 0 words in
    told ∙ ap (inverse_all limit peeled.levels) (tool_one (tool_in peeled.core) peeled.core input limit replies a b is also)
    ∙ sym told_too
one_over true (ReadFile path limit) replies one other told told_too = told ∙ sym told_too
one_over true (MakeDir path) replies one other told told_too = told ∙ sym told_too
one_over true (WriteFile path bytes append) replies one other told told_too = told ∙ sym told_too

one_unless : (broken : Bool) (request : Request) (replies : List Reply) (one other : Reply)
    → IsReplyUnless broken request replies one → IsReplyUnless broken request replies other → one ≡ other
one_unless true request replies one other told told_too = told ∙ sym told_too
one_unless false request replies one other told told_too =
    one_over (is_inside request) request replies one other told told_too

pub one_reply : (request : Request) (replies : List Reply) (one other : Reply) → IsReplyInside request replies one
    → IsReplyInside request replies other → one ≡ other
one_reply request replies one other = one_unless (list_any is_broken replies) request replies one other

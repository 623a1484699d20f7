use Rattle.std.proofs.Common.{◌^◌, subst, sym}
use Rattle.tt_run.specs.Run.{IsShort}
use Rattle.inner_answers.proofs.FitLemmas.{input_short}
use Rattle.inner_answers.proofs.below.check_reply.Goals as goal

pub answer_on-requires-clause-read : goal.answer_on-requires-clause-read
answer_on-requires-clause-read c =
    subst (IsShort (2 ^ 30)) (sym c.in_ok-read.ensures)
    (input_short c.in_ok-names.names c.args.input.now c.args.replies c.requires)

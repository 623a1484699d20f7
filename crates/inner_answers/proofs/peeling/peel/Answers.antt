use Rattle.std.proofs.Common.{◌<◌, List, length, subst, sym, arith}
use Rattle.std.proofs.lemmas.List.{length-map}
use Rattle.std.specs.Prelude.{string_bytes}
use Rattle.opt_words.specs.Step.{texts}
use Rattle.not_count.specs.declared.command.NotCommand.{NotCommand}
use Rattle.inner_answers.proofs.PeelLemmas.{Front, front_ends, front_grows}
use Rattle.inner_answers.proofs.peeling.peel.Goals as goal

pub loop-command-preserved : goal.loop-command-preserved
loop-command-preserved c =
    let words = texts c.args.words.now in
    let command = c.in-Some.command in
    let within : command.first < length words =
    omega (arith, c.in-Some.ensures.within, length-map c.args.words.now string_bytes) in
    subst (λ (done : List NotCommand). Front c.args.short words done command.first) (sym c.in_ok-push.ensures.ok)
    (front_grows c.args.short words c.loop-command.levels c.loop-command.core command c.loop-command.invariant
    (sym c.in-Some.ensures.value) within)

pub returns : goal.returns
returns c =
    front_ends c.args.short (texts c.args.words.now) c.loop-command.levels c.loop-command.core c.loop-command.invariant
    (sym c.in_default.ensures.value)

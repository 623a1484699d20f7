use Rattle.std.proofs.Common.{◌∙◌, ap, sym}
use Rattle.std.proofs.lemmas.List.{take-map}
use Rattle.std.specs.Prelude.{string_bytes}
use Rattle.not_count.specs.Command.{command_in}
use Rattle.inner_answers.specs.Peeled.{accepted}
use Rattle.inner_answers.proofs.peeling.front_command.Goals as goal

pub returns-in-Ok-clause-value : goal.returns-in-Ok-clause-value
returns-in-Ok-clause-value c =
    let front = sym (take-map string_bytes c.front_len.result c.args.words.now) in
    ap accepted (c.in-Ok.ensures.value ∙ ap command_in front ∙ c.front_len.ensures.same)

pub returns-in-Err-clause-value : goal.returns-in-Err-clause-value
returns-in-Err-clause-value c =
    let front = sym (take-map string_bytes c.front_len.result c.args.words.now) in
    ap accepted (c.in-Err.ensures.value ∙ ap command_in front ∙ c.front_len.ensures.same)

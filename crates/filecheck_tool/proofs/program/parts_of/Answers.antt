use Rattle.std.proofs.Common.{subst, ap, ◌∙◌}
use Rattle.define_words.specs.Defined.{defined_by}
use Rattle.filecheck_messages.specs.Refusal.{Ends}
use Rattle.filecheck_tool.specs.Program.{IsCompiledWith, joined}
use Rattle.filecheck_tool.proofs.program.parts_of.Goals as goal

pub returns-clause-value : goal.returns-clause-value
returns-clause-value c =
    subst (λ values. Ends (joined c.args.file.now c.parts_with.result) (IsCompiledWith c.args.file.now values))
    (c.in_ok-values.ensures ∙ ap defined_by c.as_slice.ensures) c.parts_with.ensures.value

use Rattle.std.proofs.Common.{sym, subst, ap, ◌∙◌}
use Rattle.std.specs.Int.{w128}
use Rattle.std.proofs.lemmas.Int.{to_z-of_z}
use Rattle.num_spell.specs.Spelling.{Spells, can_print, least, printed}
use Rattle.num_spell.proofs.PrintLemmas.{print_spells}
use Rattle.num_spell.proofs.printing.print_value.Goals as goal

pub returns-in-Ok-clause-spelled : goal.returns-in-Ok-clause-spelled
returns-in-Ok-clause-spelled c =
    let format = c.args.format in
    let same = to_z-of_z w128 c.args.value c.ranges.value in
    subst (λ text. Spells (least format) text c.args.value)
    (sym (c.from_vec.ensures ∙ c.in-Ok.ensures ∙ ap (printed format) same))
    (print_spells format c.args.value (ap (can_print format) (sym same) ∙ sym c.if-not-can_print.ensures)
    c.ranges.value.sfits)

use Rattle.std.proofs.Common.{length, ap, ◌∙◌}
use Rattle.tt_base.specs.Occurrence.{first_in}
use Rattle.substs.specs.Expansion.{within}
use Rattle.substs.proofs.ReplacementLemmas.{name_needs, never_in, short_enough}
use Rattle.substs.proofs.replace.replace_name.Goals as goal

pub returns-in-None : goal.returns-in-None
returns-in-None c =
    let text = c.args.text in
    let name = c.args.name.now in
    let none = c.in-None.ensures.value ∙ ap (λ n. first_in c.as_slice.result.now name 0 n) c.len.ensures
    ∙ ap (λ t. first_in t name 0 (length text)) c.as_slice.ensures in (
      ap within (never_in name _ (name_needs name c.args.value.now) c.requires.named text none)
          ∙ short_enough text c.requires.short,
      c.requires.short,
    )

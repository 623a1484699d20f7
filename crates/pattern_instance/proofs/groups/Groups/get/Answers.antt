use Rattle.std.proofs.Common.{sym, ap, ◌∙◌}
use Rattle.std.specs.FinMap as map
use Rattle.num_base.proofs.NamesLemmas.{value_under}
use Rattle.pattern_instance.proofs.groups.Groups.get.Goals as goal

pub returns : goal.returns
returns c =
    c.copied.ensures ∙ c.get.ensures.value ∙ sym (value_under c.self.inside.held.entries c.args.name.now)
    ∙ ap (λ m. map.get m c.args.name.now) c.self.view_is

use Rattle.std.proofs.Common.{is_some, sym, ap, ◌∙◌}
use Rattle.std.specs.FinMap as map
use Rattle.num_base.proofs.NamesLemmas.{value_under}
use Rattle.pattern_vars.proofs.vars.Vars.has_place.Goals as goal

pub returns : goal.returns
returns c =
    c.contains_key.ensures
    ∙ ap is_some (sym (value_under c.self.inside.held.entries c.args.name.now))
    ∙ ap (λ m. is_some (map.get m c.args.name.now)) c.self.view_is

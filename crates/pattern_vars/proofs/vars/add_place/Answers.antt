use Rattle.std.proofs.Common.{ap, ◌∙◌}
use Rattle.std.specs.FinMap as map
use Rattle.num_base.specs.Names.{by_names}
use Rattle.num_base.proofs.NamesLemmas.{put_under}
use Rattle.pattern_vars.specs.Vars.{nothing_held}
use Rattle.pattern_vars.proofs.vars.add_place.Goals as goal

pub returns-in-Ok-insert : goal.returns-in-Ok-insert
returns-in-Ok-insert c =
    ap by_names c.in-Ok-insert.ensures.entries ∙ put_under c.args.held.now.entries c.in-Ok.owned nothing_held
    ∙ ap (λ k. map.insert (by_names c.args.held.now.entries) k nothing_held) c.in-Ok.ensures.items

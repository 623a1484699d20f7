use Rattle.std.proofs.Common.{is_some, ap, ◌∙◌}
use Rattle.pattern_parse.specs.Formats.{by_places, value_at}
use Rattle.pattern_parse.proofs.FormatsLemmas.{format_set, place_stays_set}
use Rattle.std.proofs.Common.{Some}
use Rattle.pattern_parse.proofs.formats.set_format.Goals as goal

pub returns-clause-set : goal.returns-clause-set
returns-clause-set c =
    ap by_places c.set_entry.ensures
    ∙ format_set c.args.held.now.entries c.args.name.now c.args.format c.requires

pub returns-clause-stays : goal.returns-clause-stays
returns-clause-stays c = λ q has.
    ap (λ es. is_some (value_at es q)) c.set_entry.ensures
    ∙ place_stays_set c.args.held.now.entries c.args.name.now (Some c.args.format) q c.requires has

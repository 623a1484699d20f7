use Rattle.std.proofs.Common.{None, is_some, sym, ap, ◌∙◌}
use Rattle.pattern_parse.specs.Formats.{by_places, value_at}
use Rattle.pattern_parse.proofs.FormatsLemmas.{none_of, place_under, place_stays}
use Rattle.pattern_parse.proofs.formats.make_place.Goals as goal
use Rattle.pattern_parse.proofs.formats.make_place.Goals.{in-Ok-insert, in-Err}

pub returns-clause-same : goal.returns-clause-same
returns-clause-same c = elim c.match-insert.branch [
  | in-Ok-insert w ↦ ap by_places w.in-Ok-insert.ensures.entries
      ∙ place_under c.args.held.now.entries c.in-Ok.owned (ap (value_at c.args.held.now.entries) c.in-Ok.ensures.items
      ∙ none_of _ (sym c.contains_key.ensures ∙ c.if-contains_key.false))
  | in-Err w ↦ ap by_places w.in-Err.ensures.err
]

pub returns-clause-stays : goal.returns-clause-stays
returns-clause-stays c = elim c.match-insert.branch [
  | in-Ok-insert w ↦ λ q has. ap (λ es. is_some (value_at es q)) w.in-Ok-insert.ensures.entries
      ∙ place_stays c.args.held.now.entries c.in-Ok.owned None q has
  | in-Err w ↦ λ q has. ap (λ es. is_some (value_at es q)) w.in-Err.ensures.err ∙ has
]

use Rattle.std.proofs.Common.{◌≡◌, ap, ◌∙◌, rules, to_z, of_z}
use Rattle.std.specs.Int.{w128}
use Rattle.std.specs.FinMap as map
use Rattle.std.proofs.lemmas.Int.{to_z-of_z}
use Rattle.num_base.specs.Names.{by_names}
use Rattle.num_base.proofs.NamesLemmas.{put_under}
use Rattle.num_base.proofs.numbers.Numbers.put.Goals as goal
use Rattle.num_base.proofs.numbers.Numbers.put.Goals.{in-Ok-insert, in-Err}

pub returns-clause-ok : goal.returns-clause-ok
returns-clause-ok c = elim c.match-insert.branch [
  | in-Ok-insert w ↦
      let held = c.self.inside.held.entries in
      let value : to_z w128 (of_z w128 c.args.value) ≡ c.args.value = to_z-of_z w128 c.args.value c.ranges.value in
      let put = ap by_names w.in-Ok-insert.ensures.entries
      ∙ put_under held c.in-Ok.owned (to_z w128 (of_z w128 c.args.value))
      ∙ ap (λ k. map.insert (by_names held) k (to_z w128 (of_z w128 c.args.value))) c.in-Ok.ensures.items
      ∙ ap (map.insert (by_names held) c.args.name.now) value
      ∙ ap (λ m. map.insert m c.args.name.now c.args.value) c.self.view_is in
      search (rules, put, w.result-is)
  | in-Err w ↦ search rules
]

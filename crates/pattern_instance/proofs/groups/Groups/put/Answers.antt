use Rattle.std.proofs.Common.{ap, ◌∙◌, rules}
use Rattle.std.specs.FinMap as map
use Rattle.num_base.specs.Names.{by_names}
use Rattle.num_base.proofs.NamesLemmas.{put_under}
use Rattle.pattern_instance.proofs.groups.Groups.put.Goals as goal
use Rattle.pattern_instance.proofs.groups.Groups.put.Goals.{in-Ok-insert, in-Err}

pub returns : goal.returns
returns c = elim c.match-insert.branch [
  | in-Ok-insert w ↦
      let held = c.self.inside.held.entries in
      let put = ap by_names w.in-Ok-insert.ensures.entries ∙ put_under held c.in-Ok.owned c.args.number
      ∙ ap (λ k. map.insert (by_names held) k c.args.number) c.in-Ok.ensures.items
      ∙ ap (λ m. map.insert m c.args.name.now c.args.number) c.self.view_is in
      search (rules, put, w.result-is)
  | in-Err w ↦ search rules
]

use Rattle.std.proofs.Common.{ap, sym, ◌∙◌, rules}
use Rattle.json_report.specs.Changes.{both_at, by_paths, with_both}
use Rattle.json_report.proofs.PathLemmas.{found_under, put_under}
use Rattle.json_report.proofs.results.ByPath.put.Goals as goal
use Rattle.json_report.proofs.results.ByPath.put.Goals.{in-Ok-insert, in-Err}

pub returns-clause-had : goal.returns-clause-had
returns-clause-had c = elim c.match-insert.branch [
  | in-Ok-insert w ↦
      let held = c.self.inside.held.entries in
      let had = w.in-Ok-insert.ensures.old ∙ sym (found_under held c.in-Ok.owned.items)
      ∙ ap (both_at (by_paths held)) c.in-Ok.ensures.items ∙ ap (λ known. both_at known c.args.path.now) c.self.view_is in
      search (rules, had, w.result-is)
  | in-Err w ↦ search rules
]

pub returns-clause-put : goal.returns-clause-put
returns-clause-put c = elim c.match-insert.branch [
  | in-Ok-insert w ↦
      let held = c.self.inside.held.entries in
      let put = ap by_paths w.in-Ok-insert.ensures.entries ∙ put_under held c.in-Ok.owned c.args.both
      ∙ ap (λ path. with_both (by_paths held) path c.args.both) c.in-Ok.ensures.items
      ∙ ap (λ known. with_both known c.args.path.now c.args.both) c.self.view_is in
      search (rules, put, w.result-is)
  | in-Err w ↦ search rules
]

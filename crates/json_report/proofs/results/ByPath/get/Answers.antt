use Rattle.std.proofs.Common.{sym, ap, ◌∙◌}
use Rattle.json_report.specs.Changes.{both_at}
use Rattle.json_report.proofs.PathLemmas.{found_under}
use Rattle.json_report.proofs.results.ByPath.get.Goals as goal

pub returns : goal.returns
returns c =
    c.copied.ensures ∙ c.get.ensures.value ∙ sym (found_under c.self.inside.held.entries c.args.path.now)
    ∙ ap (λ known. both_at known c.args.path.now) c.self.view_is

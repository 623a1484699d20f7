use Rattle.std.proofs.Common.{◌∙◌, arith}
use Rattle.ere_auto.specs.State.{state_of}
use Rattle.ere_auto.proofs.SeenLemmas.{seen_part}
use Rattle.ere_auto.proofs.auto.Auto.skip_to.Goals as goal

pub returns-clause-seen : goal.returns-clause-seen
returns-clause-seen c = λ t of.
    let f = c.restart.ensures in
    seen_part (state_of c.args.self.now) _ t c.args.slice.now c.args.place c.requires
    (record {
      line = f.line ∙ c.is_line_start.ensures;
      searching = f.searching;
      threads = f.threads;
      at = f.at;
      best = f.best;
      nodes = f.nodes;
      entry = f.entry;
      kept = f.kept;
    })
    (omega arith) of

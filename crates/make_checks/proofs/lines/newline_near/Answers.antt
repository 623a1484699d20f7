use Rattle.make_checks.proofs.ShortLemmas.{near_front, near_newline, near_within}
use Rattle.make_checks.proofs.lines.newline_near.Goals as goal

pub returns : goal.returns
returns c =
    let text = c.args.text.now in
    let found = c.memrchr.ensures in
    record {
      within = near_within 9360 text c.memrchr.result found;
      near = near_front 9360 text c.memrchr.result found;
      newline = near_newline 9360 text c.memrchr.result found;
    }

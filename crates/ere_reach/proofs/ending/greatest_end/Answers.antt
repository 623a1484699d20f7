use Rattle.ere_tree.specs.View.{view}
use Rattle.ere_reach.proofs.EndingLemmas.{end_told}
use Rattle.ere_reach.proofs.ending.greatest_end.Goals as goal

pub returns : goal.returns
returns c =
    end_told (record { alloc = c.args.alloc; text = c.args.text; low = c.args.low; high = c.args.high })
    (view c.args.ere.now) c.in_ok-found.found c.greatest_place.result c.in_ok-found.ensures c.greatest_place.ensures

use Rattle.std.proofs.Common.{[], map, subst, append-nil}
use Rattle.pattern_parse.specs.Cut.{IsCut}
use Rattle.pattern_parse.specs.RawView.{ending_view, raw_view}
use Rattle.pattern_parse.proofs.cutting.cut_body.Goals as goal

pub returns-in-Ends : goal.returns-in-Ends
returns-in-Ends c =
    subst (λ rs. IsCut c.args.body.now rs (ending_view c.in-Ends.ending))
    (append-nil (map (raw_view c.args.body.now) c.loop-raw.raws.items))
    (c.loop-raw.invariant.rest [] (ending_view c.in-Ends.ending) c.in-Ends.ensures)

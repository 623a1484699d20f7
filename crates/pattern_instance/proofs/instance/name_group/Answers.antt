use Rattle.std.proofs.Common.{rules}
use Rattle.pattern_parse.specs.PieceView.{item_view}
use Rattle.pattern_instance.specs.Parts.{groups_behind}
use Rattle.pattern_instance.proofs.NamelessLemmas.{groups_aside}
use Rattle.pattern_instance.proofs.instance.name_group.Goals as goal

pub returns-then-not-uses : goal.returns-then-not-uses
returns-then-not-uses c = λ known n items none.
    groups_aside known n c.args.groups.now (groups_behind c.args.count c.args.groups.now (item_view c.args.piece.now)) items
    (none (search rules))

use Rattle.std.proofs.Common.{[], sym, ◌∙◌}
use Rattle.pattern_parse.specs.PieceView.{items_view}
use Rattle.pattern_instance.specs.Known.{known_in}
use Rattle.pattern_instance.proofs.NamelessLemmas.{none_missing}
use Rattle.pattern_instance.proofs.missing.missing_names.Goals as goal

pub returns-then-not-uses : goal.returns-then-not-uses
returns-then-not-uses c =
    c.into_items.ensures ∙ c.new-missing.ensures []
    ∙ sym (none_missing (known_in c.args.known.now) (items_view c.args.pieces.now) (c.requires c.if-not-uses.true))

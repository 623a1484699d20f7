use Rattle.std.proofs.Common.{[], ◌++◌, sym, ◌∙◌, ap}
use Rattle.std.specs.FinMap.{empty}
use Rattle.std.proofs.lemmas.Grind.{flat_map-append}
use Rattle.std.proofs.lemmas.List.{append-nil}
use Rattle.check_group.specs.declared.directive.Check.{Check}
use Rattle.check_program.specs.Names.{names_all, names_in}
use Rattle.pattern_instance.specs.Missing.{each_once}
use Rattle.pattern_parse.specs.PieceView.{items_view}
use Rattle.check_program.proofs.names.names_of.Goals as goal

pub returns : goal.returns
returns c =
    let first = names_all c.args.checks.now in
    let then = names_all c.args.always.now in
    c.into_items.ensures ∙ c.in_ok-add_checks-2.ensures [] ∙ c.in_ok-add_checks.ensures (then ++ [])
    ∙ c.new-names.ensures (first ++ (then ++ []))
    ∙ ap (λ names. each_once empty (first ++ names)) (append-nil then)
    ∙ ap (each_once empty) (sym (flat_map-append (λ (check : Check). names_in (items_view check.pattern.pieces))
    c.args.checks.now c.args.always.now))

use Rattle.std.proofs.Common.{[], refl, sym, subst}
use Rattle.std.proofs.lemmas.Result.{IfOk-weaker}
use Rattle.json_report.specs.Changes.{Agrees, with_lines}
use Rattle.json_report.proofs.changed.changes.Goals as goal

pub returns : goal.returns
returns c =
    let old = with_lines [] c.args.old.now in
    let none = subst (λ known. Agrees known [] [] []) (sym c.new-results.ensures) (refl, (λ _. refl), λ _. refl) in
    let olds = c.in_ok-add_old.ensures [] none in
    let all = c.in_ok-add_new.ensures old [] old olds in
    IfOk-weaker c.changes.result _ _ (λ found is. is old (with_lines [] c.args.new.now) (with_lines old c.args.new.now) all) c.changes.ensures

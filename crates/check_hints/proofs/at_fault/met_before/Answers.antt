use Rattle.std.proofs.Common.{All, subst, sym}
use Rattle.std.proofs.lemmas.List.Elements.{All-take}
use Rattle.check_group.specs.Changes.{IsReady}
use Rattle.check_hints.proofs.at_fault.met_before.Goals as goal

pub returns : goal.returns
returns c = λ vars ready.
    subst (All (IsReady vars)) (sym c.split_at.ensures.front)
    (All-take (IsReady vars) c.tried_behind.result c.args.checks.now ready)

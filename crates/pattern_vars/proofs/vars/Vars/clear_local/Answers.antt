use Rattle.std.proofs.Common.{subst, rules}
use Rattle.num_base.specs.Names.{by_names}
use Rattle.pattern_vars.specs.Vars.{IsCleared}
use Rattle.pattern_vars.proofs.VarsLemmas.{cleared_is, entries_cleared, kept_cleared}
use Rattle.pattern_vars.proofs.vars.Vars.clear_local.Goals as goal

pub returns : goal.returns
returns c =
    let each : IsCleared c.args.self.now (by_names c.retain.new.self.entries) =
    subst (λ vars. IsCleared vars (by_names c.retain.new.self.entries)) c.self.view_is
    (entries_cleared _ _ (kept_cleared _ _ (λ k v b w g told. search rules) _ _ c.retain.ensures.filtered)) in
    record { each = each; value = cleared_is _ _ each }

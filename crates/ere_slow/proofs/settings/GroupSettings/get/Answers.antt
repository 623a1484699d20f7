use Rattle.std.proofs.Common.{sym, ◌∙◌}
use Rattle.ere_slow.proofs.WayLemmas.{get_unset, get_settings_same, get_settings_other}
use Rattle.ere_slow.proofs.settings.GroupSettings.get.Goals as goal
use Rattle.ere_slow.proofs.settings.GroupSettings.get.Goals.{then-setting-number, else-setting-number}

pub loop-setting-init : goal.loop-setting-init
loop-setting-init c = get_unset c.args.number

pub loop-setting-preserved : goal.loop-setting-preserved
loop-setting-preserved c =
    elim c.if-setting-number.branch [
      | then-setting-number w ↦ w.held-is ∙ sym
          (get_settings_same _ _ _ _ c.loop-setting-test.true w.if-setting-number.true)
      | else-setting-number w ↦ w.held-is ∙ c.loop-setting.invariant
          ∙ sym (get_settings_other _ _ _ _ c.loop-setting-test.true w.if-setting-number.false)
    ]

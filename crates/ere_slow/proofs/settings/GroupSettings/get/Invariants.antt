use Rattle.std.proofs.Common.{◌≡◌, take}
use Rattle.std.specs.FinMap.{get, empty}
use Rattle.ere_slow.specs.WayView.{after_settings}
use Rattle.ere_slow.proofs.settings.GroupSettings.get.Given as goal

abbrev pub invariant-loop-setting : goal.invariant-loop-setting
invariant-loop-setting l = l.held ≡ get (after_settings empty (take l.setting-index l.setting-items)) l.number

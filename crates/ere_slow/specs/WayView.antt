-- The ways and captures that the slow program's values stand for.
use Rattle.std.specs.Prelude.{ℕ, List, [], ◌∷◌}
use Rattle.std.specs.FinMap.{insert, empty}
use Rattle.ere_tree.specs.Captures.{Captures}
use Rattle.ere_tree.specs.Derivation.{Way, Ways, leaf, parts, members, chosen, inside, done, next}
use Rattle.ere_slow.specs.declared.settings.Setting.{Setting}
use Rattle.ere_slow.specs.declared.settings.GroupSettings.{GroupSettings}
use Rattle.ere_slow.specs.declared.way.OwnedWay.{OwnedWay}
use Rattle.ere_slow.specs.declared.way.OwnedWay.TheOpen.{OwnedWay-F, OwnedStep-F, OwnedWays-F}
use Rattle.ere_slow.specs.declared.way.OwnedWay.TheFolds.{fold-OwnedWay, fold-OwnedStep, fold-OwnedWays}
use Rattle.ere_slow.specs.declared.way.OwnedStep.{OwnedStep}
use Rattle.ere_slow.specs.declared.way.OwnedWays.{OwnedWays}

-- the captures behind these settings, from the first to the last
abbrev pub after_settings : Captures → List Setting → Captures
after_settings c [] = c
after_settings c (one ∷ later) = after_settings (insert c one.number (one.from, one.to)) later

-- the captures that settings stand for
abbrev pub captures_of : GroupSettings → Captures
captures_of settings = after_settings empty settings.held.items

-- ends and ways as a row of ways
abbrev pub ways_of : List (ℕ × Way) → Ways
ways_of [] = done
ways_of (one ∷ later) = next one.0 one.1 (ways_of later)

-- one level, with what is inside already seen
abbrev pub way_step : OwnedWay-F Way (ℕ × Way) (List (ℕ × Way)) → Way
way_step OwnedWay-F.Leaf = leaf
way_step (OwnedWay-F.Parts row) = parts (ways_of row)
way_step (OwnedWay-F.Members row) = members (ways_of row)
way_step (OwnedWay-F.Chosen index way) = chosen index way.value
way_step (OwnedWay-F.Inside way) = inside way.value

abbrev pub step_step : OwnedStep-F Way (ℕ × Way) (List (ℕ × Way)) → ℕ × Way
step_step one = (one.to, one.way)

abbrev pub row_step : OwnedWays-F Way (ℕ × Way) (List (ℕ × Way)) → List (ℕ × Way)
row_step all = all.held.items

-- the way of a value
abbrev pub way_of : OwnedWay → Way
way_of = fold-OwnedWay Way (ℕ × Way) (List (ℕ × Way)) way_step step_step row_step

-- the end and the way of one of a row
abbrev pub step_of : OwnedStep → ℕ × Way
step_of = fold-OwnedStep Way (ℕ × Way) (List (ℕ × Way)) way_step step_step row_step

-- the ends and ways of a row
abbrev pub row_of : OwnedWays → List (ℕ × Way)
row_of = fold-OwnedWays Way (ℕ × Way) (List (ℕ × Way)) way_step step_step row_step

use Rattle.std.proofs.Common.{◌≡◌}
use Rattle.text_windows.proofs.windows.Windows.lack.Given as goal

abbrev pub invariant-loop-at : goal.invariant-loop-at
invariant-loop-at l = record { same : l.self-inside ≡ l.initial.self-inside }

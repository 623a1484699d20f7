use Rattle.std.proofs.Common.{◌≡◌, ◌<◌, ℕ, true, false, slice_index_or}
use Rattle.text_windows.specs.Windows.{slot_at}
use Rattle.text_windows.proofs.windows.Windows.mark.Given as goal

abbrev pub invariant-loop-at : goal.invariant-loop-at
invariant-loop-at l = record {
  marked : (before : ℕ) → before < l.at → slice_index_or l.self-inside.marked.items (slot_at l.text before) false ≡ true;
}

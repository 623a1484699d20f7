use Rattle.std.proofs.Common.{◌≡◌, ◌+◌, ◌≤◌, ℕ, length, slice_index_or, ◌/◌}
use Rattle.text_windows.specs.Windows.{slot_at}
use Rattle.text_windows.proofs.firsts.Firsts.mark.Given as goal

abbrev pub invariant-loop-at : goal.invariant-loop-at
invariant-loop-at l = record {
  within : l.at + 3 ≤ length l.text;
  count : length l.self-inside.places.items ≡ 65536;
  kept : (later : ℕ) → l.at ≤ later → later + 4 ≤ length l.text
      → slice_index_or l.self-inside.places.items (slot_at l.text later / 4) 0 ≤ later;
}

abbrev pub decreases-loop-at : goal.decreases-loop-at
decreases-loop-at l = l.at

use Rattle.std.proofs.Common.{◌≡◌, ℕ, ◌<◌, ◌≤◌, true, false, length, slice_index_or}
use Rattle.ere_auto.specs.Closure.{origin_in}
use Rattle.ere_auto.specs.Marks.{members}
use Rattle.ere_auto.proofs.slot.free_slot.Given as goal

abbrev pub invariant-loop-thread : goal.invariant-loop-thread
invariant-loop-thread l = record {
  marked : (x : ℕ) → x < l.thread-index → slice_index_or l.slots (origin_in l.threads x) false ≡ true;
  few : members l.slots ≤ l.thread-index;
  long : length l.slots ≡ length l.fn.slots;
}

abbrev pub invariant-loop-slot : goal.invariant-loop-slot
invariant-loop-slot l = (k : ℕ) → k < l.slot → slice_index_or l.slots k false ≡ true

use Rattle.std.proofs.Common.{◌≡◌, ◌+◌, ◌++◌, vec_len, vec_capacity, take}
use Rattle.ere_auto.proofs.thread.add_threads.Given as goal

abbrev pub invariant-loop-thread : goal.invariant-loop-thread
invariant-loop-thread l = record {
  items : l.list.items ≡ l.fn.list.items ++ take l.thread-index l.threads;
  len : vec_len l.list ≡ vec_len l.fn.list + l.thread-index;
  capacity : vec_capacity l.list ≡ vec_capacity l.fn.list;
}

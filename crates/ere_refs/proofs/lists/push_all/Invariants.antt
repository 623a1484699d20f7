use Rattle.std.proofs.Common.{◌≡◌, ◌++◌, ◌+◌, length, map}
use Rattle.std.specs.Prelude.{reverse}
use Rattle.ere_refs.specs.Machine.{new_frame}
use Rattle.ere_refs.proofs.lists.push_all.Given as goal

abbrev pub invariant-loop : goal.invariant-loop
invariant-loop l = record {
  count : length l.found.items + l.counter ≡ length l.initial.found.items;
  frames : l.frames.items ++ reverse (map (new_frame l.stage l.place) l.found.items)
      ≡ l.initial.frames.items ++ reverse (map (new_frame l.stage l.place) l.initial.found.items);
}

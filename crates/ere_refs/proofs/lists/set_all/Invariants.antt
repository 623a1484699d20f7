use Rattle.std.specs.List.{AllZip}
use Rattle.ere_refs.specs.Machine.{SetsGroup}
use Rattle.ere_refs.proofs.lists.set_all.Given as goal

abbrev pub invariant-loop-held : goal.invariant-loop-held
invariant-loop-held l = AllZip (SetsGroup l.part l.number) l.yielded l.set.items

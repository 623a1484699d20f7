use Rattle.std.proofs.Common.{◌≡◌, map}
use Rattle.std.specs.List.{fold}
use Rattle.lit_paths.specs.Paths.{with_part}
use Rattle.lit_paths.proofs.reading.add_parts.Given as goal

abbrev pub invariant-loop-part : goal.invariant-loop-part
invariant-loop-part l = l.path.items ≡ fold with_part l.fn.path.items (map (λ part. part.now) l.yielded)

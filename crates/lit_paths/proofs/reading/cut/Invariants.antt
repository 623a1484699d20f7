use Rattle.std.proofs.Common.{◌≡◌, map}
use Rattle.lit_paths.proofs.reading.cut.Given as goal

abbrev pub invariant-loop-part : goal.invariant-loop-part
invariant-loop-part l = l.parts ≡ map (λ part. part.now) l.yielded

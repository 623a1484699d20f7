use Rattle.std.proofs.Common.{◌≡◌, map}
use Rattle.ere_refs.specs.Machine.{caps_at}
use Rattle.ere_refs.proofs.kept.Kept.into_caps.Given as goal

abbrev pub invariant-loop-state : goal.invariant-loop-state
invariant-loop-state l = map (λ held. held.items) l.all.items ≡ map caps_at l.yielded

use Rattle.std.proofs.Common.{take}
use Rattle.ere_captures.specs.Walk.{IsGreatest}
use Rattle.ere_places.specs.Seen.{is_held}
use Rattle.ere_captures.proofs.rest.greatest.Given as goal

abbrev pub invariant-loop-place : goal.invariant-loop-place
invariant-loop-place l = IsGreatest (is_held l.set) (take l.place-index l.places) l.held

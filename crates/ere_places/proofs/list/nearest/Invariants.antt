use Rattle.std.proofs.Common.{IsTrue, take}
use Rattle.std.specs.List.{All}
use Rattle.ere_places.specs.Seen.{is_beyond}
use Rattle.ere_places.proofs.list.nearest.Given as goal

abbrev pub invariant-loop-place : goal.invariant-loop-place
invariant-loop-place l = All (λ p. IsTrue (is_beyond l.direction l.near p)) (take l.place-index l.places)

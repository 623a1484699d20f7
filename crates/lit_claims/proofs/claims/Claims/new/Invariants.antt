use Rattle.std.proofs.Common.{◌≡◌, ◌+◌, length}
use Rattle.std.specs.List.{All, sum_by}
use Rattle.lit_claims.specs.Seats.{IsFresh, claims_id, share_of}
use Rattle.lit_claims.proofs.claims.Claims.new.Given as goal

abbrev pub invariant-loop : goal.invariant-loop
invariant-loop l = record {
  first : IsFresh (claims_id l.claims) l.first;
  left : share_of l.first + l.counter ≡ 65;
  count : length l.seats + 1 ≡ l.counter;
  shares : sum_by share_of l.seats + share_of l.first ≡ 64;
  all : All (IsFresh (claims_id l.claims)) l.seats;
}

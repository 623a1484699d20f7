-- What seats and claims tell.
use Rattle.std.specs.Prelude.{ℕ, ◌≡◌, List, [], length}
use Rattle.std.specs.List.{All, sum_by}
use Rattle.atomic_table.specs.Seated.{TableId}
use Rattle.lit_claims.specs.Claimed.{SHARES}
use Rattle.lit_claims.specs.declared.claims.Claims.{Claims}
use Rattle.lit_claims.specs.declared.claims.ClaimSeat.{ClaimSeat}

-- which claims these are
abbrev pub claims_id : Claims → TableId
claims_id claims = claims.table.shared.table_id

-- of which claims a seat is
abbrev pub seat_id : ClaimSeat → TableId
seat_id seat = seat.seat.table_id

-- its share of the 64
abbrev pub share_of : ClaimSeat → ℕ
share_of seat = seat.seat.me.0.share

-- the numbers that it drew and took over, in order
abbrev pub drawn_by : ClaimSeat → List ℕ
drawn_by seat = seat.seat.me.0.drawn

-- a seat of these claims that has drawn nothing
abbrev pub IsFresh : TableId → ClaimSeat → Type 0
IsFresh id seat = (seat_id seat ≡ id) × (drawn_by seat ≡ [])

-- a seat for each worker, with all shares
pub record AreSeats (id : TableId) (workers : ℕ) (seats : List ClaimSeat) : Type 0 where
  pub count : length seats ≡ workers
  pub fresh : All (IsFresh id) seats
  pub shares : sum_by share_of seats ≡ SHARES

pub mod Claimed
pub mod Counted
pub mod Laws
pub mod Seats

pub mod Discovery
pub mod Files
pub mod Found
pub mod Laws
pub mod Places
pub mod Refusals
pub mod Sorting
pub mod Walk

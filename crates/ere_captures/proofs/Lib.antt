pub mod BestLemmas
mod DepthLemmas
mod EndsLemmas
pub mod ExistLemmas
pub mod GreatestLemmas
pub mod KeepLemmas
pub mod RestsLemmas
pub mod WalkLemmas

pub mod BeginsLemmas
pub mod EndsLemmas
pub mod FilterLemmas
pub mod NewlineLemmas
pub mod ShownLemmas
mod HitLemmas
mod HitSpanLemmas
mod LineLemmas
mod StartsLemmas

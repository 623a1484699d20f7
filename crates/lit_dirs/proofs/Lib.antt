pub mod LookLemmas
pub mod NamedLemmas
pub mod ReadLemmas
pub mod MadeLemmas

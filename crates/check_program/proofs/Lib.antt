pub mod BodyLemmas
pub mod CompileLemmas
pub mod ReadyLemmas

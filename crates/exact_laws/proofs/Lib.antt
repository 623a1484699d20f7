pub mod CompileLemmas
pub mod ExactLemmas

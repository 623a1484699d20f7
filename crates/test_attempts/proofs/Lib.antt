pub mod AttemptLemmas
pub mod HandLemmas

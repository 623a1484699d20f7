pub mod CompleteLemmas
pub mod FrontLemmas
pub mod SoundLemmas

pub mod EmptyLemmas
pub mod FirstLemmas
pub mod MadeLemmas

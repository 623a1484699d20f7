pub mod HandLemmas
pub mod InsideLemmas

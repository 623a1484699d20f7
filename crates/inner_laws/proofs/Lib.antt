pub mod InsideLemmas
pub mod NotLemmas
pub mod SteadyLemmas

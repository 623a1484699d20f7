pub mod OrderLemmas
pub mod RoundLemmas
pub mod TrialLemmas
pub mod WorkLemmas

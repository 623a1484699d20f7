pub mod ChosenLemmas
pub mod FoundLemmas

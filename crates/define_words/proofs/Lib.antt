pub mod DefinedLemmas
pub mod LawLemmas
pub mod StartLemmas

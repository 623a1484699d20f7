pub mod CanonLemmas
pub mod FormLemmas
pub mod MarkLemmas

pub mod CrewLemmas
pub mod LawLemmas
pub mod RunLemmas

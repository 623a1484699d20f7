pub mod BlockLemmas
pub mod BlocksLemmas
pub mod ClosingLemmas
pub mod LawLemmas
pub mod LiesLemmas
pub mod PartLemmas
pub mod RunsLemmas
pub mod VerdictLemmas

pub mod DumpLemmas
pub mod FaultLemmas
pub mod NumberLemmas
pub mod ProgramLemmas
pub mod RunLemmas
pub mod TextLemmas
pub mod VerdictLemmas

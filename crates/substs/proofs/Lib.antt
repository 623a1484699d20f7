pub mod ExpansionLemmas
pub mod ReplacementLemmas

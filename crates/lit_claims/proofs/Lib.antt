pub mod Counts
pub mod RuleLemmas

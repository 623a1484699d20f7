pub mod DiveLemmas

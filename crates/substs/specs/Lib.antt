pub mod Expansion
pub mod Replacement

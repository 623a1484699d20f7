pub mod Finder
pub mod Selection

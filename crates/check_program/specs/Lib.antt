pub mod Adds
pub mod Compiled
pub mod Names
pub mod Ready

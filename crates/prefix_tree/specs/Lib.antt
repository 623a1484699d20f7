pub mod Heads
pub mod Prefix
pub mod Tree
pub mod Turns

pub mod Groups
pub mod Seen
pub mod Steps

pub mod Answer
pub mod Kept
pub mod Message
pub mod Run

pub mod Answer
pub mod Message
pub mod Refusal
pub mod Spot
pub mod Telling

pub mod Hands
pub mod Round
pub mod Trials
pub mod Work

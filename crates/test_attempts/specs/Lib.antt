pub mod Attempts
pub mod Ends
pub mod Finish
pub mod Hands

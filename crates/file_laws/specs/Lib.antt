pub mod Asks
pub mod Kept
pub mod Lead
pub mod Made

pub mod Best
pub mod Walk

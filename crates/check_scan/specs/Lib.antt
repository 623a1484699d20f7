pub mod Block
pub mod Blocks
pub mod Laws
pub mod Parts
pub mod Runs
pub mod Verdict

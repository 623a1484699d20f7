pub mod Parts
pub mod Suites
pub mod Values
pub mod Whole

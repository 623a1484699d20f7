pub mod Fault
pub mod Number
pub mod Reading
pub mod Step
pub mod Word

pub mod Asked
pub mod Expression
pub mod Fault
pub mod Given
pub mod Number
pub mod Paths

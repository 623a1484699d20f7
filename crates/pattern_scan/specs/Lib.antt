pub mod Means
pub mod Ready
pub mod Seek
pub mod Stored

pub mod Bytes
pub mod Course
pub mod Entries
pub mod Laws
pub mod Played

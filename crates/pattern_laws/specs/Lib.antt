pub mod Groups
pub mod Recalls
pub mod Texts

pub mod Changes
pub mod Laws
pub mod Reading
pub mod Report
pub mod Texts

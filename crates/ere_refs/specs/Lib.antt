pub mod Course
pub mod Lists
pub mod Live
pub mod Machine
pub mod Over
pub mod Refers
pub mod Sets
pub mod Site

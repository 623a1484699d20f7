pub mod Joined
pub mod Keyword
pub mod Line
pub mod Lists
pub mod Said
pub mod Script

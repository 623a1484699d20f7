pub mod Index
pub mod Looks
pub mod Seen
pub mod Suites
pub mod Trees

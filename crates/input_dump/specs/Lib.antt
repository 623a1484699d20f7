pub mod Dump
pub mod Follow
pub mod Laws
pub mod Marks
pub mod Order
pub mod Rows

pub mod Hands
pub mod Inside

pub mod Bound
pub mod Caps
pub mod Plain

pub mod Asked
pub mod Command
pub mod Count
pub mod Inverse
pub mod Lines

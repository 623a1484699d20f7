pub mod Gathered
pub mod Pieces
pub mod Telling

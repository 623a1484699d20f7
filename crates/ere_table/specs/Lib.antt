pub mod Node
pub mod Path
pub mod Stands
pub mod Table

pub mod Canon
pub mod Marks

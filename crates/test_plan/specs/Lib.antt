pub mod Plan
pub mod RunLines

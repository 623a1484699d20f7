pub mod Adding
pub mod Directives
pub mod Keeping
pub mod Made

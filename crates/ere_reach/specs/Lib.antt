pub mod Asked
pub mod Held
pub mod Leads
pub mod Live
pub mod Memo
pub mod Moving
pub mod Refers
pub mod Rows

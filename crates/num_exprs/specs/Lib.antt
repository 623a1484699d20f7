pub mod Block
pub mod Fault
pub mod Name
pub mod Place
pub mod Productions
pub mod Row
pub mod Token
pub mod View

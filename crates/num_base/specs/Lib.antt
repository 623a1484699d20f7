pub mod Eval
pub mod Names
pub mod Term
pub mod Value

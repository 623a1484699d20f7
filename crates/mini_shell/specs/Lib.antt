pub mod Class
pub mod Fault
pub mod Grammar
pub mod Quoting
pub mod Reading
pub mod Token
pub mod Value
pub mod Word

pub mod Below
pub mod Files
pub mod Inside
pub mod Peeled
pub mod Peeling
pub mod Told

pub mod Defined
pub mod Format
pub mod Laws
pub mod Start
pub mod View
pub mod Word

pub mod Laws
pub mod Names
pub mod Run
pub mod Text
pub mod Transcript
pub mod Trial

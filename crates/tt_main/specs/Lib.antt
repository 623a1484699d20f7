pub mod Environment
pub mod NoWords
pub mod Page

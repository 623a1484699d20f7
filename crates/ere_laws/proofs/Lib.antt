pub mod BoundSpelling
pub mod BracketSpelling
pub mod CompletionLemmas
pub mod CutLemmas
pub mod FrontSpelling
pub mod PlaceLemmas
pub mod RespellLemmas
pub mod TokenSpelling

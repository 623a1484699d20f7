pub mod KeyLemmas
pub mod ReadLemmas
pub mod SuiteLemmas
pub mod WholeLemmas

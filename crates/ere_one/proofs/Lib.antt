pub mod LeafLemmas
pub mod WalkLemmas

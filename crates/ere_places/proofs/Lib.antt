pub mod LeafLemmas
pub mod ListLemmas
pub mod ReachLemmas
pub mod SeenLemmas
pub mod SpanLemmas
pub mod StepsLemmas
pub mod WindowLemmas
pub mod TreesLemmas

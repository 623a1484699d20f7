pub mod ClimbLemmas
pub mod DirLemmas
pub mod FaultLemmas
pub mod IndexLemmas
pub mod ListLemmas
pub mod SeenLemmas
pub mod SuiteLemmas
pub mod TreeLemmas

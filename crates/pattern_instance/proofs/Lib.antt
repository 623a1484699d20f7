pub mod GatherLemmas
pub mod GroupLemmas
pub mod NamelessLemmas
pub mod PiecesLemmas

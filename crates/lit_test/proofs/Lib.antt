pub mod EndingLemmas
pub mod LawLemmas
pub mod LineLemmas
pub mod PieceLemmas
pub mod TextLemmas

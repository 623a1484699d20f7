pub mod FreeLemmas
pub mod GrammarLemmas
pub mod HoldingLemmas
pub mod PieceLemmas
pub mod ReaderLemmas

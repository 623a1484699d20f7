pub mod GrammarLemmas
pub mod ReaderLemmas
pub mod RowLemmas

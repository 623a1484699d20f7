pub mod NamesLemmas
pub mod NumberTextLemmas
pub mod SeekLemmas
pub mod StoredLemmas

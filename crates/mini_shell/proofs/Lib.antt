pub mod ClassLemmas
pub mod GrowthLemmas
pub mod LineLemmas
pub mod QuotingLemmas
pub mod ReadingLemmas
pub mod SentenceLemmas
pub mod UniqueLemmas
pub mod ValueLemmas

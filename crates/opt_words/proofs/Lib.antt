pub mod NumberLemmas
pub mod WordLemmas
pub mod ReadingLemmas
pub mod StepLemmas

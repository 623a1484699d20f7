pub mod BodyLemmas
pub mod FileLemmas
pub mod KeptLemmas
pub mod PlainLemmas
pub mod ReadLemmas
pub mod SpelledLemmas

pub mod CapsLemmas
pub mod NearLemmas
pub mod PlainLemmas
pub mod ReadLemmas

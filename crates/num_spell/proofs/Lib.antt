pub mod PrintLemmas
pub mod ReadLemmas
pub mod ValueLemmas
pub mod WildLemmas

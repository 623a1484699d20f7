pub mod GroupLemmas
pub mod NumberLemmas
pub mod RecallLemmas
pub mod TextLemmas

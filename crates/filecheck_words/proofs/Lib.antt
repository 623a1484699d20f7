pub mod ImplicitLemmas
pub mod PrefixesLemmas
pub mod WordsLemmas

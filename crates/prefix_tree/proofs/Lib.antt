pub mod HeadsLemmas
pub mod PrefixLemmas
pub mod TreeLemmas
pub mod TurnsLemmas

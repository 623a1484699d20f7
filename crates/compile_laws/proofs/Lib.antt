pub mod LawLemmas

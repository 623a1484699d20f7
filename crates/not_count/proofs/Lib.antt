pub mod LinesLemmas

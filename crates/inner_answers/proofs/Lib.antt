pub mod CountLemmas
pub mod FitLemmas
pub mod FrontLemmas
pub mod InsideLemmas
pub mod KeptLemmas
pub mod PeelLemmas

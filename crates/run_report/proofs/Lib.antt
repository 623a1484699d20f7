pub mod FaultLemmas
pub mod PieceLemmas
pub mod RunLemmas
pub mod StopLemmas
pub mod TextLemmas

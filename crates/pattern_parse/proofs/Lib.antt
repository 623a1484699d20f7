pub mod CutLemmas
pub mod EndLemmas
pub mod FormatsLemmas
pub mod NumberLemmas
pub mod PieceLemmas
pub mod SearchLemmas
pub mod StepLemmas

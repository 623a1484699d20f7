pub mod GroupLemmas
pub mod SeenLemmas
pub mod StepLemmas

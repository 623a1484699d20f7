pub mod ChainLemmas
pub mod LeafLemmas
pub mod PartsLemmas
pub mod PlacesLemmas
pub mod ReachLemmas
pub mod WeightLemmas

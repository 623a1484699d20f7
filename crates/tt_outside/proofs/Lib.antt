pub mod CrewLemmas
pub mod EqualLemmas
pub mod GateLemmas
pub mod ListingLemmas
pub mod MemoryLemmas
pub mod TransferLemmas

pub mod CallLemmas
pub mod FaultLemmas
pub mod NameLemmas
pub mod ShardLemmas
pub mod TestLemmas

pub mod AboveLemmas
pub mod CutLemmas
pub mod LawLemmas
pub mod NormalLemmas
pub mod PartLemmas

pub mod PathLemmas
pub mod PutLemmas
pub mod SoundLemmas
pub mod StandsLemmas
pub mod TableLemmas

pub mod PutLemmas

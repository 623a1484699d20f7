pub mod EvalLemmas
pub mod NamesLemmas

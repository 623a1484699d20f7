pub mod AnswerLemmas
pub mod AppendLemmas

pub mod JoinLemmas
pub mod KeywordLemmas
pub mod LineLemmas
pub mod ListLemmas
pub mod ScriptLemmas

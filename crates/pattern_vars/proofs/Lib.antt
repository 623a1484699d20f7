pub mod VarsLemmas

pub mod Answer
pub mod CheckFile
pub mod Dump
pub mod Making
pub mod Program
pub mod Run
pub mod Start
pub mod Verdict

pub mod Begins
pub mod Ends
pub mod Filter
pub mod Line
pub mod Shown
pub mod Spans
pub mod Starts

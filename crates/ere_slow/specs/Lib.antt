pub mod Listing
pub mod Slow
pub mod WayView

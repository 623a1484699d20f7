pub mod MembershipLemmas
pub mod ListingLemmas
pub mod SlowLemmas
pub mod WayLemmas

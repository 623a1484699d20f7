pub mod Looks
pub mod Passing
pub mod Suites
pub mod Tests

pub mod Places
pub mod Play
pub mod Standing
pub mod PlayOf

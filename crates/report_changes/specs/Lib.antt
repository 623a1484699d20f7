pub mod Answer
pub mod Asked
pub mod Run
pub mod Stop

pub mod Instance
pub mod Known
pub mod Missing
pub mod Parts
pub mod Views

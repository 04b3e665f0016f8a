pub mod LineSizes
pub mod Parts

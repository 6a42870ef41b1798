pub mod Sheet
pub mod Parts

pub mod Independence
pub mod ByRows
pub mod Ties
pub mod Halves

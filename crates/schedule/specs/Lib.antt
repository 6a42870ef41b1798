pub mod Range
pub mod Heaviest

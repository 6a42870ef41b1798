pub mod Tells
pub mod Joins
pub mod Primaries

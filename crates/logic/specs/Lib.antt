pub mod Quantifiers
pub mod Table

pub mod Bools
pub mod Quantifiers
pub mod Lowest
pub mod Table

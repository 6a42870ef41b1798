pub mod ClearSet
pub mod Listed
pub mod Tied
pub mod ByHalves

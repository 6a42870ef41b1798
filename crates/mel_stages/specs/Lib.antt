pub mod Mel
pub mod Masks
pub mod Plain
pub mod Examples

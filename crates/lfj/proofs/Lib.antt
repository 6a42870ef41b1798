pub mod Words
pub mod After
pub mod Filled
pub mod Fits

pub mod Split
pub mod Hang

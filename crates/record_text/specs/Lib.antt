pub mod Part
pub mod Texts

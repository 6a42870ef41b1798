pub mod Words
pub mod Stages
pub mod Checks
pub mod Same
pub mod Masks
pub mod Own
pub mod Starts
pub mod Pairs

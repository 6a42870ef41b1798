pub mod Ticks
pub mod Openings
pub mod Runs
mod Examples

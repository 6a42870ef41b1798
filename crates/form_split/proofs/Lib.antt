pub mod Grow
pub mod Starting
pub mod Forms
pub mod Writing

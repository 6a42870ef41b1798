pub mod Taking
pub mod Working
pub mod Ticks
pub mod Bound
pub mod Validity

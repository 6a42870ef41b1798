pub mod Rule
pub mod Validity
pub mod Run
mod Examples

pub mod Rows
pub mod Outcomes
pub mod Orders
pub mod Theorems

pub mod Form
pub mod Demand

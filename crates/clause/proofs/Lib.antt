pub mod GoalFacts
pub mod PairRows
pub mod Decoded

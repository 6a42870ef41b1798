pub mod Text
pub mod GoalSteps

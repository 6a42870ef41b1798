mod Goals
mod Opened
pub mod Stages

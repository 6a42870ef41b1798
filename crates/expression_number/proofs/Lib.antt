pub mod Runs
mod Digits

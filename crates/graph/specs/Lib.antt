pub mod Graph
pub mod Closure
pub mod Passes
pub mod PassRows
pub mod Linking
mod Examples

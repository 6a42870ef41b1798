pub mod Sets
pub mod Figure1
pub mod Linear
pub mod Examples

pub mod Fields
pub mod Facts

pub mod Adding
pub mod Related

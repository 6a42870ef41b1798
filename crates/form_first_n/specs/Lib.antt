pub mod FirstN
pub mod Candidates

pub mod Lines
pub mod Forms
pub mod Mel
pub mod Sheet

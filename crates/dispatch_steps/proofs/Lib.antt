pub mod Masks
pub mod Free
pub mod Going
pub mod Looking
pub mod Turning

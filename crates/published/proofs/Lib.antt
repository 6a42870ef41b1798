pub mod Lists
pub mod Graph
pub mod Lemmas
pub mod Groups
pub mod Linear
pub mod Deep
pub mod Theorems

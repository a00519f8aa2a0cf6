pub mod Basis
pub mod Counts
pub mod Turns

pub mod Basis
pub mod Front
pub mod Found
pub mod Sets
pub mod Waiting

pub mod Introduction
pub mod Lawful
pub mod Sets

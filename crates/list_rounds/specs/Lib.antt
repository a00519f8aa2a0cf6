pub mod Acting
pub mod Basis
pub mod Course
pub mod Renaming
pub mod Rounds
pub mod Runs

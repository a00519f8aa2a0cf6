pub mod Bools
pub mod Lists
pub mod Members
pub mod Options
pub mod Orderings
pub mod Places
pub mod Ranges
pub mod Without

pub mod Basis
pub mod Board
pub mod Marked
pub mod Pending
pub mod Sources
pub mod Writers

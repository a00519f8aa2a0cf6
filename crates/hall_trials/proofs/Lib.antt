pub mod Ending
pub mod InTurn
pub mod Joining
pub mod Posts
pub mod Working

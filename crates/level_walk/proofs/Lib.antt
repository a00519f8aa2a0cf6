pub mod Between
pub mod Pending
pub mod Searching
pub mod Shortest
pub mod Together
pub mod Visiting

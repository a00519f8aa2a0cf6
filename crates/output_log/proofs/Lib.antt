pub mod BlockEntries
pub mod Filters
pub mod Joins
pub mod LogEntries
pub mod Parts
pub mod Puts
pub mod Search
pub mod Written

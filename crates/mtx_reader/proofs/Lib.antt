pub mod Listing
pub mod Times
pub mod Settling
pub mod Parity
pub mod Entries
pub mod PlainEntries

pub mod Locations
pub mod Parts
mod Stored
mod Copies
mod Exchanges
mod Moves
mod Returns
mod Independent
mod Values
mod AtHome

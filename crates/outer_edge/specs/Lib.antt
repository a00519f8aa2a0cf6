pub mod Choices
pub mod Faults
pub mod Reading
pub mod Writing
pub mod Memory
pub mod Edge
pub mod Transfers

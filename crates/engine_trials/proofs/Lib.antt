pub mod Adding
pub mod Hands
pub mod Walking

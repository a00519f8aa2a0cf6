pub mod Board
pub mod Markers
pub mod Ranks
pub mod Words

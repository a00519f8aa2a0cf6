pub mod Acted
pub mod Beside
pub mod Runs
pub mod Streams
pub mod Team
pub mod Turns

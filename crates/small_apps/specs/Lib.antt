pub mod Trails
pub mod Lawful

pub mod Deeds
pub mod Values
pub mod Hooked
pub mod Kept
pub mod OneLocation
pub mod ValueLaws
pub mod Lawful

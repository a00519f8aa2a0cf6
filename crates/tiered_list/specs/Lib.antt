pub mod Form
pub mod Tiered
pub mod Tiers

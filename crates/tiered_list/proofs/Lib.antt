pub mod Around
pub mod FullTiers
pub mod InPlace

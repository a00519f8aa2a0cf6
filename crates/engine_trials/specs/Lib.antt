pub mod Adding
pub mod InHand
pub mod Walking

pub mod Answers
pub mod Desk
pub mod Outcomes
pub mod Seats

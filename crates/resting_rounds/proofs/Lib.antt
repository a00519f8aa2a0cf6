pub mod Finding
pub mod Gathered
pub mod Gathering
pub mod Meetings
pub mod RoundLaws

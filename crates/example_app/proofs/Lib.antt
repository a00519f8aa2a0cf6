pub mod Meetings

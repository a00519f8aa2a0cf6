pub mod Beside
pub mod Course
pub mod Family
pub mod Leaving
pub mod Lists
pub mod Names
pub mod Steps
pub mod Touched

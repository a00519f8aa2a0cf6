pub mod Fits
pub mod Hall
pub mod Known
pub mod Laws
pub mod Leaving
pub mod Steps
pub mod Turns

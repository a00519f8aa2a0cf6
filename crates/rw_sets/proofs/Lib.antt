mod Places
mod Joins
mod InPlace
mod Skips

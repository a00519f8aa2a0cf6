pub mod Parts
pub mod Numerals
pub mod Cuts
pub mod FirstFault

pub mod Counting
pub mod Tables
pub mod FanIns
pub mod LineByLine
pub mod Lines
pub mod Sound

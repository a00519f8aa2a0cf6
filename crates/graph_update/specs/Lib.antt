pub mod Answers
pub mod AtHome
pub mod Basis
pub mod Engine
pub mod Ready

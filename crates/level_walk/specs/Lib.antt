pub mod Walks
pub mod Levels
pub mod Edges
pub mod Laws
pub mod VisitLaws

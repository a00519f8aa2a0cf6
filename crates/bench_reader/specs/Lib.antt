pub mod Faults
pub mod LineForms
pub mod Decks
pub mod Grammar
pub mod Statements
pub mod Outlines

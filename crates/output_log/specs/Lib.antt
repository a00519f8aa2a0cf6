pub mod Blocks
pub mod Entries
pub mod Laws
pub mod LogState
pub mod Past
pub mod EntryLaws

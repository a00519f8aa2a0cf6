pub mod Bundles
pub mod SafeTasks

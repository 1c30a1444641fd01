pub mod State
pub mod Resolve
pub mod Kept
pub mod Names

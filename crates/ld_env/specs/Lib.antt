pub mod Named
pub mod Entries

pub mod Lists
pub mod Places
pub mod Flags
pub mod Marks
pub mod Entries
pub mod Variables
pub mod Kept

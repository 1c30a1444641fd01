pub mod Canonical
pub mod Writable
pub mod ReadBack
pub mod Joined
pub mod Appends
pub mod Writing

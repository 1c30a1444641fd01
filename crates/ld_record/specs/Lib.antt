pub mod Follows
pub mod Equal
pub mod Kept
pub mod Tables
pub mod Growth
pub mod Laws
pub mod Tests

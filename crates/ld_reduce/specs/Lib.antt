pub mod Task
pub mod Heads
pub mod Work
pub mod Cost
pub mod Steps
pub mod Forms
pub mod Laws
pub mod Samples

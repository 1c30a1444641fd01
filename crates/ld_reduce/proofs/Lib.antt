pub mod Tasks
pub mod Going
mod Following
mod Unfolding
mod Stepping
mod Walks
mod Forming
mod Redexes
mod Looping
pub mod Once
pub mod CallerLemmas
pub mod Sampled

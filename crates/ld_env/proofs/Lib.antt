pub mod Names
pub mod CallerLemmas

pub mod Judged
pub mod Laws
pub mod Parts
pub mod Rightness

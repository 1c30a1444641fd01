pub mod Number
pub mod Spelling
pub mod Derives
pub mod Written
pub mod Read
pub mod Shapes
pub mod Laws

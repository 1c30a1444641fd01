pub mod Cut
pub mod Display
pub mod Formed
pub mod Laws
pub mod Shown

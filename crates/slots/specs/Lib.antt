pub mod World
pub mod Slots
pub mod Load
pub mod Bounds
pub mod Laws

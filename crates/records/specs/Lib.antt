pub mod Records
pub mod Turn
pub mod Bounds
pub mod Queries
pub mod Words
pub mod Moves

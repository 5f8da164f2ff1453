pub mod Integers
pub mod Balance
pub mod Floor

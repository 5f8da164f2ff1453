pub mod Behind
pub mod Digits
pub mod Lines

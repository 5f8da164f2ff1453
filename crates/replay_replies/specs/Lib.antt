pub mod Lines
pub mod Errors
pub mod Closing

pub mod State
pub mod Bounds
pub mod Turn
pub mod Refusals
pub mod Course
pub mod Pulsed

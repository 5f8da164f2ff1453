pub mod Date
pub mod Stamp
pub mod DayNumber
pub mod Cycle

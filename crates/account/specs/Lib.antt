pub mod Codes
pub mod Valve
pub mod Account
pub mod Thresholds

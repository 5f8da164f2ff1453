pub mod Line
pub mod Records

pub mod Forms
pub mod Faults
pub mod Requests

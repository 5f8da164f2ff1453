pub mod RunningLedger
pub mod SameLedger

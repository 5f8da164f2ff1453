pub mod ReplayStep

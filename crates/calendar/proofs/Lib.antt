pub mod Lengths
pub mod Days
pub mod Cycles
pub mod Stamps

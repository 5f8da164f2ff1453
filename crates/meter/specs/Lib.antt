pub mod Call
pub mod Refusals
pub mod Effects
pub mod Machine
pub mod Accepted
pub mod Step

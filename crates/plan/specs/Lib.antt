pub mod Plan
pub mod Rules
pub mod InForce
pub mod BothInForce
pub mod Cycles
pub mod Charge

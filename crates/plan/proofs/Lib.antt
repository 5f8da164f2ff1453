pub mod Charge
pub mod Cycles
pub mod Every
pub mod DaysInForce
pub mod GoodPlan
pub mod Cleared
pub mod StepWalk

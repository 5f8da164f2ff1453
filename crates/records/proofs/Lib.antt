pub mod BoundsInParts
pub mod BoundsKept
pub mod PeriodsBounds
pub mod Rows
pub mod Pushed
pub mod AfterTurn

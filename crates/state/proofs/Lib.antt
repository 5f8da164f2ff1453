pub mod Admitted
pub mod BoundsInParts
pub mod TurnKeepsBounds
pub mod PulsesKeepBounds
pub mod Headroom
pub mod WordsTurned

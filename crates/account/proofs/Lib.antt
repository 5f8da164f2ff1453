pub mod CodesNoted
pub mod BoundsKept
pub mod ThresholdsCut

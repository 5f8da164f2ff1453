pub mod InForce
pub mod BoundsKept
pub mod RealLaws

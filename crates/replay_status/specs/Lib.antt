pub mod Status

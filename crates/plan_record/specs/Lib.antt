pub mod Digits
pub mod Fields
pub mod PlanRecord
pub mod RoundTrips
pub mod Choice

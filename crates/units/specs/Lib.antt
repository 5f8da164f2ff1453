pub mod Volume
pub mod Money
pub mod Display

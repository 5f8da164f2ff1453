pub mod Decimal
pub mod Hex
pub mod Word
pub mod Written

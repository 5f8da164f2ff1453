pub mod TextWriter
pub mod Value

pub mod CodesText
pub mod Agrees
mod Examples

pub mod OnlyNoPlan
mod Examples

pub mod Headroom
pub mod OpenPages
pub mod EachCall
pub mod SameLedger

pub mod Refusal

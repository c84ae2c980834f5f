pub mod LineStatus
pub mod Refusal
pub mod SecurityStatus

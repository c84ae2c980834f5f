pub mod Condition
pub mod Matrix

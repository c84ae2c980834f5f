pub mod Sweeping
pub mod Ranges

pub mod Joins
pub mod Noting
pub mod Slices

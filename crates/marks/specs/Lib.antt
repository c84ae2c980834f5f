pub mod Actions
pub mod Marks
pub mod Range
pub mod Sweep

pub mod Overwriting
pub mod Padding

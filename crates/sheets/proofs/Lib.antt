pub mod Commas
pub mod Formed
pub mod Passed
pub mod Sofar

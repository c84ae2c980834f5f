pub mod Commas
pub mod Filling
pub mod Markets
pub mod Steps
pub mod Searched

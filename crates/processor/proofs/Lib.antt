pub mod Arrays
pub mod Calls
pub mod Days
pub mod Lawfully
pub mod Notes
pub mod Soundness
pub mod Swept
pub mod Turns

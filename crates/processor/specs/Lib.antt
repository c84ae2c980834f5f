pub mod Bars
pub mod Held
pub mod Kept
pub mod Lawful
pub mod Making
pub mod Replies
pub mod Turns

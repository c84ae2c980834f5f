pub mod Again
pub mod Fields
pub mod Numbers

pub mod Inquiry
pub mod SecurityState

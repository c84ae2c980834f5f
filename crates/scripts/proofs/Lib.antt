pub mod FirstLines
pub mod Numerals
pub mod Pairing

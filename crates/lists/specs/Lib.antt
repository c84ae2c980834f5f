pub mod Listed
pub mod ListRows
pub mod Market

pub mod Asked
pub mod Context
pub mod HeaderRows
pub mod Judged

pub mod Buffer
pub mod Lent
pub mod Printable
pub mod Symbol

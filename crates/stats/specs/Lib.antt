pub mod Entries
pub mod Spans
pub mod Plain
pub mod Sheets
pub mod Reports
pub mod Records

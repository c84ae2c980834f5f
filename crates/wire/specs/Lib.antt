pub mod Frames
pub mod Header
pub mod MassAction
pub mod Number
pub mod Part
pub mod Recording
pub mod TradeReport

pub mod TradeRows

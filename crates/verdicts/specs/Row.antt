-- The rows of the tables that a frame is judged by.
use Rattle.std.specs.Prelude.{ℕ}
use Rattle.wire.specs.Header.{header_number}
use Rattle.verdicts.specs.declared.row.Row.{Row}
use Rattle.verdicts.specs.declared.row.Row.TheVariants.{Header, Originator, FeedSequence, Trade, MassAction}
use Rattle.verdicts.specs.declared.row.TradeRow.{TradeRow}
use Rattle.verdicts.specs.declared.row.TradeRow.TheVariants.{SymbolPrintable, SymbolListed, IdNotAbove, IdNotBelow, FlagPrintable, FlagAccepted, ConditionPrintable, ValuesAccepted, BucketsAccepted, FlagWithCondition, SellerDays, SidePrintable, SideAccepted, VolumeNotZero, DayOpen}
use Rattle.verdicts.specs.declared.row.MassActionRow.{MassActionRow}
use Rattle.verdicts.specs.declared.row.MassActionRow.TheVariants as mass

abbrev pub trade_number : TradeRow → ℕ
trade_number SymbolPrintable = 1
trade_number SymbolListed = 2
trade_number IdNotAbove = 3
trade_number IdNotBelow = 4
trade_number FlagPrintable = 5
trade_number FlagAccepted = 6
trade_number ConditionPrintable = 7
trade_number ValuesAccepted = 8
trade_number BucketsAccepted = 9
trade_number FlagWithCondition = 10
trade_number SellerDays = 11
trade_number SidePrintable = 12
trade_number SideAccepted = 13
trade_number VolumeNotZero = 14
trade_number DayOpen = 15

abbrev pub mass_action_number : MassActionRow → ℕ
mass_action_number mass.FirstPrintable = 1
mass_action_number mass.LastPrintable = 2
mass_action_number mass.ActionPrintable = 3
mass_action_number mass.ActionAccepted = 4
mass_action_number mass.TimeInDay = 5
mass_action_number mass.DayOpen = 6

-- each kind counts its rows from 1; those of the header, which every kind has, begin at 101
abbrev pub row_number : Row → ℕ
row_number (Header row) = header_number row
row_number Originator = 104
row_number FeedSequence = 105
row_number (Trade row) = trade_number row
row_number (MassAction row) = mass_action_number row

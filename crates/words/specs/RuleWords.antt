-- What is wrong with a frame where a row fails, in words for people.
use Rattle.std.specs.Prelude.{List, ℕ, codes}
use Rattle.verdicts.specs.declared.row.MassActionRow.{MassActionRow}
use Rattle.verdicts.specs.declared.row.MassActionRow.TheVariants as mass
use Rattle.verdicts.specs.declared.row.Row.{Row}
use Rattle.verdicts.specs.declared.row.Row.TheVariants.{Header, Originator, FeedSequence, Trade, MassAction}
use Rattle.verdicts.specs.declared.row.TradeRow.{TradeRow}
use Rattle.verdicts.specs.declared.row.TradeRow.TheVariants.{SymbolPrintable, SymbolListed, IdNotAbove, IdNotBelow, FlagPrintable, FlagAccepted, ConditionPrintable, ValuesAccepted, BucketsAccepted, FlagWithCondition, SellerDays, SidePrintable, SideAccepted, VolumeNotZero, DayOpen}
use Rattle.wire.specs.declared.header.HeaderRow.{HeaderRow}
use Rattle.wire.specs.declared.header.HeaderRow.TheVariants.{Version, Kind, Length}

-- 101 to 103
abbrev pub header_words : HeaderRow → List ℕ
header_words Version = codes "the frame has fewer than 3 bytes, or the version is not the character 1"
header_words Kind = codes "the letters name no kind"
header_words Length = codes "the length is not the kind's"

-- 1 to 15
abbrev pub trade_words : TradeRow → List ℕ
trade_words SymbolPrintable = codes "a byte of the symbol is not printable"
trade_words SymbolListed = codes "the symbol is not listed"
trade_words IdNotAbove = codes "the trade id is above the expected one"
trade_words IdNotBelow = codes "the trade id is below the expected one"
trade_words FlagPrintable = codes "the exempt flag is not printable"
trade_words FlagAccepted = codes "the exempt flag is not acceptable"
trade_words ConditionPrintable = codes "a byte of the sale condition is not printable"
trade_words ValuesAccepted = codes "a byte of the sale condition is acceptable in no bucket"
trade_words BucketsAccepted = codes "a byte of the sale condition is not acceptable in its bucket"
trade_words FlagWithCondition = codes "the exempt flag and the sale condition do not go together"
trade_words SellerDays = codes "the seller days are not 2 to 60 with an R in the sale condition, or not 0 without one"
trade_words SidePrintable = codes "the side is not printable"
trade_words SideAccepted = codes "the side is not acceptable"
trade_words VolumeNotZero = codes "the volume is 0"
trade_words DayOpen = codes "the day is not open"

-- 1 to 6
abbrev pub mass_action_words : MassActionRow → List ℕ
mass_action_words mass.FirstPrintable = codes "a byte of the first symbol is not printable"
mass_action_words mass.LastPrintable = codes "a byte of the last symbol is not printable"
mass_action_words mass.ActionPrintable = codes "the action is not printable"
mass_action_words mass.ActionAccepted = codes "the action is none of Q, W and E"
mass_action_words mass.TimeInDay = codes "the action time is before the day's start or after the SIP time"
mass_action_words mass.DayOpen = codes "the day is not open"

abbrev pub rule_words : Row → List ℕ
rule_words (Header row) = header_words row
rule_words Originator = codes "the originator is not the line's"
rule_words FeedSequence = codes "the feed sequence is above the expected one"
rule_words (Trade row) = trade_words row
rule_words (MassAction row) = mass_action_words row

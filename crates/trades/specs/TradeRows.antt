-- The rows of a trade report.
use Rattle.std.specs.Prelude.{ℕ, Bool, cond, not, ◌&&◌, List, [], ◌∷◌, map, ◌==◌, nat_le, slice_index}
use Rattle.std.specs.Option.{is_some}
use Rattle.books.specs.Sets.{in_some_bucket, Sets}
use Rattle.cuts.specs.Cut.{has}
use Rattle.rows.specs.Asked.{Asked, cut_unless, reject_unless}
use Rattle.rows.specs.Context.{is_open}
use Rattle.rows.specs.declared.context.Context.{Context}
use Rattle.sheets.specs.declared.bucket.Bucket.TheVariants.{One, Two, Three, Four}
use Rattle.text.specs.Printable.{all_printable, printable}
use Rattle.verdicts.specs.declared.code.Code.TheVariants as code
use Rattle.verdicts.specs.declared.row.Row.TheVariants.{Trade}
use Rattle.verdicts.specs.declared.row.TradeRow.{TradeRow}
use Rattle.verdicts.specs.declared.row.TradeRow.TheVariants.{SymbolPrintable, SymbolListed, IdNotAbove, IdNotBelow, FlagPrintable, FlagAccepted, ConditionPrintable, ValuesAccepted, BucketsAccepted, FlagWithCondition, SellerDays, SidePrintable, SideAccepted, VolumeNotZero, DayOpen}
use Rattle.wire.specs.TradeReport.{fields_of}

-- a test of each of a condition's four bytes
abbrev pub each_byte : (ℕ → Bool) → List ℕ → Bool
each_byte test condition = test (slice_index condition 0) && (test (slice_index condition 1) && (test (slice_index condition 2) && test (slice_index condition 3)))

abbrev pub each_in_own_bucket : Sets → List ℕ → Bool
each_in_own_bucket sets condition =
    sets.values One (slice_index condition 0)
    && (sets.values Two (slice_index condition 1)
    && (sets.values Three (slice_index condition 2)
    && sets.values Four (slice_index condition 3)))

-- 2 to 60 days where a byte is R, for a seller's option, else none
abbrev pub days_fit : List ℕ → ℕ → Bool
days_fit condition days = cond (has 82 condition) (nat_le 2 days && nat_le days 60) (days == 0)

-- what each row asks, and what the processor does otherwise
abbrev pub trade_asked : Sets → Context → List ℕ → TradeRow → Asked
trade_asked sets context frame SymbolPrintable = cut_unless (all_printable (fields_of frame).symbol) code.SecurityIdentifier (Trade SymbolPrintable)
trade_asked sets context frame SymbolListed = reject_unless (is_some context.security) code.SecurityIdentifier (Trade SymbolListed)
trade_asked sets context frame IdNotAbove = reject_unless (nat_le (fields_of frame).trade_id context.expected_trade_id) code.TradeId (Trade IdNotAbove)
trade_asked sets context frame IdNotBelow = reject_unless (nat_le context.expected_trade_id (fields_of frame).trade_id) code.TradeId (Trade IdNotBelow)
trade_asked sets context frame FlagPrintable = cut_unless (printable (fields_of frame).exempt_flag) code.ExemptFlag (Trade FlagPrintable)
trade_asked sets context frame FlagAccepted = reject_unless (sets.flags (fields_of frame).exempt_flag) code.ExemptFlag (Trade FlagAccepted)
trade_asked sets context frame ConditionPrintable = cut_unless (all_printable (fields_of frame).condition) code.SaleCondition (Trade ConditionPrintable)
trade_asked sets context frame ValuesAccepted = reject_unless (each_byte (in_some_bucket sets) (fields_of frame).condition) code.SaleCondition (Trade ValuesAccepted)
trade_asked sets context frame BucketsAccepted = reject_unless (each_in_own_bucket sets (fields_of frame).condition) code.SaleCondition (Trade BucketsAccepted)
trade_asked sets context frame FlagWithCondition = reject_unless (sets.pairs (fields_of frame).exempt_flag (fields_of frame).condition) code.SaleCondition (Trade FlagWithCondition)
trade_asked sets context frame SellerDays = reject_unless (days_fit (fields_of frame).condition (fields_of frame).seller_days) code.SellerDays (Trade SellerDays)
trade_asked sets context frame SidePrintable = cut_unless (printable (fields_of frame).side) code.Side (Trade SidePrintable)
trade_asked sets context frame SideAccepted = reject_unless (sets.sides (fields_of frame).side) code.Side (Trade SideAccepted)
trade_asked sets context frame VolumeNotZero = reject_unless (not ((fields_of frame).volume == 0)) code.TradeVolume (Trade VolumeNotZero)
trade_asked sets context frame DayOpen = reject_unless (is_open context.phase) code.NotOpen (Trade DayOpen)

-- top to bottom
abbrev pub trade_order : List TradeRow
trade_order =
    SymbolPrintable ∷ SymbolListed ∷ IdNotAbove ∷ IdNotBelow ∷ FlagPrintable ∷ FlagAccepted ∷ ConditionPrintable ∷ ValuesAccepted
    ∷ BucketsAccepted ∷ FlagWithCondition ∷ SellerDays ∷ SidePrintable ∷ SideAccepted ∷ VolumeNotZero ∷ DayOpen ∷ []

abbrev pub trade_rows : Sets → Context → List ℕ → List Asked
trade_rows sets context frame = map (trade_asked sets context frame) trade_order

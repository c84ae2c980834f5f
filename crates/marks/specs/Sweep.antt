-- A mass trading action over the records of one line, one for each security of the market list in the list's order.
use Rattle.std.specs.Prelude.{ℕ, ◌+◌, Bool, cond, ◌&&◌, List, [], ◌∷◌, ◌++◌, length, take, drop, Some, None, Option, nat_le}
use Rattle.stats.specs.declared.record.MarketCenterRecord.{MarketCenterRecord}
use Rattle.marks.specs.declared.range.SymbolRange.{SymbolRange}
use Rattle.marks.specs.declared.trading_action.TradingAction.{TradingAction}
use Rattle.marks.specs.Marks.{is_applied, mark_after}
use Rattle.marks.specs.Range.{in_range}

-- whether an action over a range is applied to a security
abbrev pub is_swept : TradingAction → SymbolRange → List ℕ → MarketCenterRecord → Bool
is_swept action range symbol r = in_range range symbol && is_applied action r.quote_mark

-- the security's record after it: outside the range it stays, and in the range only its mark may change
abbrev pub swept_record : TradingAction → SymbolRange → List ℕ → MarketCenterRecord → MarketCenterRecord
swept_record action range symbol r =
    cond (in_range range symbol) (record { next_trade_id = r.next_trade_id; quote_mark = mark_after action r.quote_mark; sheet = r.sheet }) r

-- every security's record after it; the records past the last security stay
unfoldable pub swept : TradingAction → SymbolRange → List (List ℕ) → List MarketCenterRecord → List MarketCenterRecord
swept action range [] records = records
swept action range (symbol ∷ symbols) [] = []
swept action range (symbol ∷ symbols) (r ∷ records) = swept_record action range symbol r ∷ swept action range symbols records

-- to how many securities it is applied
unfoldable pub swept_count : TradingAction → SymbolRange → List (List ℕ) → List MarketCenterRecord → ℕ
swept_count action range [] records = 0
swept_count action range (symbol ∷ symbols) [] = 0
swept_count action range (symbol ∷ symbols) (r ∷ records) = cond (is_swept action range symbol r) 1 0 + swept_count action range symbols records

-- whether a line's records, from an index on, all stand in a slice
abbrev pub has_line : ℕ → List (List ℕ) → List MarketCenterRecord → Bool
has_line from symbols records = nat_le (from + length symbols) (length records)

-- what is told, and what the slice holds after it, where a line's records begin at an index; without room nothing is done
abbrev pub sweep_tells : TradingAction → SymbolRange → List (List ℕ) → List MarketCenterRecord → ℕ → Option ℕ
sweep_tells action range symbols records from = cond (has_line from symbols records) (Some (swept_count action range symbols (drop from records))) None

abbrev pub sweep_leaves : TradingAction → SymbolRange → List (List ℕ) → List MarketCenterRecord → ℕ → List MarketCenterRecord
sweep_leaves action range symbols records from = cond (has_line from symbols records) (take from records ++ swept action range symbols (drop from records)) records

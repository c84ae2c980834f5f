-- A tape line read back from its bytes, at its commas.
use Rattle.std.specs.Prelude.{◌≡◌, ℕ, ◌-◌, false, List, [], ◌∷◌, length, take}
use Rattle.std.specs.Str.Parse.{digits_value}
use Rattle.cuts.specs.Cut.{field_of, has, parts}
use Rattle.text.specs.Symbol.{text_of}
use Rattle.wire.specs.declared.trade_report.TradeReport.{TradeReport}
use Rattle.tape.specs.TapeLine.{tape_fields}

-- a line without the byte that ends it
unfoldable pub unended : List ℕ → List ℕ
unended line = take (length line - 1) line

-- the fourth field, the seventh, and the number that the eleventh writes
unfoldable pub tape_symbol : List ℕ → List ℕ
tape_symbol line = field_of 4 (unended line)

unfoldable pub tape_condition : List ℕ → List ℕ
tape_condition line = field_of 7 (unended line)

unfoldable pub tape_volume : List ℕ → ℕ
tape_volume line = digits_value 10 (field_of 11 (unended line))

-- no comma stands in a text that the report brings
pub record CommaFree (r : TradeReport) : Type 0 where
  pub originator : has 44 r.originator ≡ false
  pub symbol : has 44 r.symbol ≡ false
  pub exempt_flag : has 44 (r.exempt_flag ∷ []) ≡ false
  pub condition : has 44 r.condition ≡ false
  pub side : has 44 (r.side ∷ []) ≡ false

-- what bytes say where they are the line of a report
pub record ReadsBack (serial time : ℕ) (r : TradeReport) (line : List ℕ) : Type 0 where
  pub fields : parts 44 (unended line) ≡ tape_fields serial time r
  pub symbol : tape_symbol line ≡ text_of r.symbol
  pub condition : tape_condition line ≡ r.condition
  pub volume : tape_volume line ≡ r.volume

-- The state of a practice day.
use Rattle.std.specs.Prelude.{ℕ, ◌+◌, ◌*◌, List, ◌++◌, length, take, drop, replicate, slice_index_or}
use Rattle.rows.specs.declared.context.Phase.{Phase}
use Rattle.rows.specs.declared.context.Phase.TheVariants.{Fresh}
use Rattle.states.specs.LineStatus.{fresh_line}
use Rattle.states.specs.SecurityStatus.{fresh_security}
use Rattle.states.specs.declared.line_status.LineStatus.{LineStatus}
use Rattle.states.specs.declared.security_status.SecurityStatus.{SecurityStatus}
use Rattle.stats.specs.Plain.{empty_sheet}
use Rattle.stats.specs.Records.{fresh_record}
use Rattle.stats.specs.declared.plain_sheet.PlainSheet.{PlainSheet}
use Rattle.stats.specs.declared.record.MarketCenterRecord.{MarketCenterRecord}
use Rattle.stats.specs.declared.sale.LastSale.{LastSale}

-- what every line sees, and only the operator alters: the list, when the day started, its phase, and each security's status
pub record Market : Type 0 where
  pub symbols : List (List ℕ)
  pub originators : List (List ℕ)
  pub start : ℕ
  pub phase : Phase
  pub securities : List SecurityStatus

-- what one line has of its own, and only its calls alter: its status and its record of each security
pub record Line : Type 0 where
  pub status : LineStatus
  pub records : List MarketCenterRecord

-- a day: the market, each line's status, all lines' records, the consolidated sheets, and how many reports were taken
pub record Day : Type 0 where
  pub market : Market
  pub statuses : List LineStatus
  -- line after line, and in a line security after security
  pub records : List MarketCenterRecord
  pub sheets : List (PlainSheet LastSale)
  pub serial : ℕ

abbrev pub line_count : Market → ℕ
line_count market = length market.originators

abbrev pub security_count : Market → ℕ
security_count market = length market.symbols

-- the part of a list that a line has, where each line has `width` places
abbrev pub part_of : {X : Type 0} → ℕ → ℕ → List X → List X
part_of width line xs = take width (drop (line * width) xs)

-- a list in which a line's part is another
abbrev pub with_part : {X : Type 0} → ℕ → ℕ → List X → List X → List X
with_part width line new xs = take (line * width) xs ++ (new ++ drop (line * width + width) xs)

abbrev pub line_of : ℕ → Day → Line
line_of line day = record { status = slice_index_or day.statuses line fresh_line; records = part_of (security_count day.market) line day.records }

abbrev pub no_sheet : PlainSheet LastSale
no_sheet = empty_sheet

-- a new day clears the records that it needs, from the first on, and no other
abbrev pub fresh_day : List (List ℕ) → List (List ℕ) → ℕ → List MarketCenterRecord → Day
fresh_day symbols originators start records = record {
  market = record { symbols = symbols; originators = originators; start = start; phase = Fresh; securities = replicate (length symbols) fresh_security };
  statuses = replicate (length originators) fresh_line;
  records = replicate (length originators * length symbols) fresh_record ++ drop (length originators * length symbols) records;
  sheets = replicate (length symbols) no_sheet;
  serial = 0;
}

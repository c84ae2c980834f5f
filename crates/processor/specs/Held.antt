-- What the processor holds, as the day that it is, and a day with something else at one place.
use Rattle.std.specs.Prelude.{ℕ, List, ◌++◌, drop, replicate, Some, slice_set}
use Rattle.lists.specs.Listed.{lines_of, securities_of}
use Rattle.states.specs.declared.line_status.LineStatus.{LineStatus}
use Rattle.states.specs.declared.security_status.SecurityStatus.{SecurityStatus}
use Rattle.stats.specs.Records.{fresh_record}
use Rattle.stats.specs.declared.plain_sheet.PlainSheet.{PlainSheet}
use Rattle.stats.specs.declared.record.MarketCenterRecord.{MarketCenterRecord}
use Rattle.stats.specs.declared.sale.LastSale.{LastSale}
use Rattle.verdicts.specs.declared.answer.Reason.{Reason}
use Rattle.day.specs.State.{Day, Market, part_of, security_count, with_part}
use Rattle.processor.specs.declared.floor.Floor.{Floor}

abbrev pub day_of : Floor → Day
day_of f = record {
  market = record {
    symbols = securities_of f.market;
    originators = lines_of f.market;
    start = f.start;
    phase = f.phase;
    securities = f.securities.items;
  };
  statuses = f.lines.items;
  records = f.records.now;
  sheets = f.sheets.items;
  serial = f.serial;
}

abbrev pub with_status : Day → ℕ → LineStatus → Day
with_status d line status = record { market = d.market; statuses = slice_set d.statuses line status; records = d.records; sheets = d.sheets; serial = d.serial }

abbrev pub with_record : Day → ℕ → ℕ → MarketCenterRecord → Day
with_record d line place r = record {
  market = d.market;
  statuses = d.statuses;
  records = with_part (security_count d.market) line (slice_set (part_of (security_count d.market) line d.records) place r) d.records;
  sheets = d.sheets;
  serial = d.serial;
}

-- the next serial, and a sheet with the report that has it
abbrev pub with_sheet : Day → ℕ → PlainSheet LastSale → ℕ → Day
with_sheet d place sheet serial = record { market = d.market; statuses = d.statuses; records = d.records; sheets = slice_set d.sheets place sheet; serial = serial }

abbrev pub with_market : Day → Market → Day
with_market d market = record { market = market; statuses = d.statuses; records = d.records; sheets = d.sheets; serial = d.serial }

abbrev pub with_security : Market → ℕ → SecurityStatus → Market
with_security m place status = record { symbols = m.symbols; originators = m.originators; start = m.start; phase = m.phase; securities = slice_set m.securities place status }

abbrev pub cut_status : Reason → LineStatus → LineStatus
cut_status reason s = record { logged_in = s.logged_in; cut = Some reason; expected_sequence = s.expected_sequence; consumed = s.consumed }

abbrev pub with_records : Day → ℕ → List MarketCenterRecord → Day
with_records d line records = record { market = d.market; statuses = d.statuses; records = with_part (security_count d.market) line records d.records; sheets = d.sheets; serial = d.serial }

-- records of which the first are cleared
abbrev pub cleared : ℕ → List MarketCenterRecord → List MarketCenterRecord
cleared count records = replicate count fresh_record ++ drop count records

-- What is kept for one line and one security.
use Rattle.stats.specs.declared.record.MarketCenterRecord.{MarketCenterRecord}
use Rattle.stats.specs.declared.record.QuoteMark.TheVariants.{Welcome}
use Rattle.stats.specs.Plain.{empty_sheet}

-- the record whose bytes are all zero, which stands for one past the end of a list
abbrev pub no_record : MarketCenterRecord
no_record = record { next_trade_id = 0; quote_mark = Welcome; sheet = empty_sheet }

-- before any report: trade ids begin at 1
abbrev pub fresh_record : MarketCenterRecord
fresh_record = record { next_trade_id = 1; quote_mark = Welcome; sheet = empty_sheet }

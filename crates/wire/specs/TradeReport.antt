-- The regular trade report: 72 bytes, kind TE.
use Rattle.std.specs.Prelude.{◌≡◌, ℕ, ◌^◌, ◌<◌, cond, List, [], ◌∷◌, ◌++◌, length, drop, Ok, Err, codes, Result, nat_le, slice_index}
use Rattle.wire.specs.Header.{asked_of, first_failing, unless}
use Rattle.wire.specs.Number.{bytes_of, value_of}
use Rattle.wire.specs.Part.{part}
use Rattle.wire.specs.declared.header.HeaderRow.{HeaderRow}
use Rattle.wire.specs.declared.trade_report.TradeReport.{TradeReport}
use Rattle.wire.specs.declared.trade_report.WriteRefusal.{WriteRefusal}
use Rattle.wire.specs.declared.trade_report.WriteRefusal.TheVariants.{ShortBuffer}

-- the fields of a frame, each at its offset
abbrev pub fields_of : List ℕ → TradeReport
fields_of frame = record {
  originator = part 3 5 frame;
  timestamp1 = value_of (part 5 13 frame);
  feed_sequence = value_of (part 13 21 frame);
  participant_token = value_of (part 21 29 frame);
  timestamp2 = value_of (part 29 37 frame);
  symbol = part 37 48 frame;
  trade_id = value_of (part 48 52 frame);
  exempt_flag = slice_index frame 52;
  condition = part 53 57 frame;
  seller_days = value_of (part 57 59 frame);
  side = slice_index frame 59;
  price = value_of (part 60 68 frame);
  volume = value_of (part 68 72 frame);
}

-- the fields where the frame is a trade report, else the first row of the header that fails
abbrev pub report_in : List ℕ → Result TradeReport HeaderRow
report_in frame = unless (first_failing (asked_of (codes "TE") 72 frame)) (fields_of frame)

-- the bytes of a report, field after field: the header that every kind has, then the trade
abbrev pub header_bytes : TradeReport → List ℕ
header_bytes r =
    codes "1TE"
    ++ r.originator
    ++ bytes_of 8 r.timestamp1
    ++ bytes_of 8 r.feed_sequence
    ++ bytes_of 8 r.participant_token

abbrev pub trade_bytes : TradeReport → List ℕ
trade_bytes r =
    bytes_of 8 r.timestamp2
    ++ r.symbol
    ++ bytes_of 4 r.trade_id
    ++ (r.exempt_flag ∷ [])
    ++ r.condition
    ++ bytes_of 2 r.seller_days
    ++ (r.side ∷ [])
    ++ bytes_of 8 r.price
    ++ bytes_of 4 r.volume

abbrev pub frame_of : TradeReport → List ℕ
frame_of r = header_bytes r ++ trade_bytes r

-- what the types of the fields say of their values
pub record TypedHeader (r : TradeReport) : Type 0 where
  pub originator : length r.originator ≡ 2
  pub timestamp1 : r.timestamp1 < 256 ^ 8
  pub feed_sequence : r.feed_sequence < 256 ^ 8
  pub participant_token : r.participant_token < 256 ^ 8

pub record TypedTrade (r : TradeReport) : Type 0 where
  pub timestamp2 : r.timestamp2 < 256 ^ 8
  pub symbol : length r.symbol ≡ 11
  pub trade_id : r.trade_id < 256 ^ 4
  pub condition : length r.condition ≡ 4
  pub seller_days : r.seller_days < 256 ^ 2
  pub price : r.price < 256 ^ 8
  pub volume : r.volume < 256 ^ 4

-- the number of a refusal
abbrev pub refusal_number : WriteRefusal → ℕ
refusal_number ShortBuffer = 6

-- a report is written where the buffer has 72 bytes
abbrev pub writing : List ℕ → Result (Unit {0}) WriteRefusal
writing buffer = cond (nat_le 72 (length buffer)) (Ok tt) (Err ShortBuffer)

-- what the buffer then holds: the report in front, or all as it was
abbrev pub written : TradeReport → List ℕ → List ℕ
written r buffer = cond (nat_le 72 (length buffer)) (frame_of r ++ drop 72 buffer) buffer

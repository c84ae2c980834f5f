-- The marked cases: on one list, one book and one day, what a frame is answered and what stands after it.
use Rattle.std.specs.Prelude.{◌≡◌, ℕ, ◌+◌, ◌-◌, Bool, true, false, cond, List, [], ◌∷◌, ◌++◌, map, length, take, replicate, Some, None, codes, Option}
use Rattle.books.specs.Sets.{Sets}
use Rattle.books.specs.SheetSets.{Clean, sheet_sets}
use Rattle.codes.specs.declared.book_row.BookRow.{BookRow}
use Rattle.codes.specs.declared.book_row.BookRow.TheVariants.{Flag, Side, Value, Barred}
use Rattle.sheets.specs.declared.bucket.Bucket.TheVariants.{One, Two, Three, Four}
use Rattle.stats.specs.declared.record.MarketCenterRecord.{MarketCenterRecord}
use Rattle.stats.specs.declared.record.QuoteMark.{QuoteMark}
use Rattle.stats.specs.declared.record.QuoteMark.TheVariants as mark
use Rattle.verdicts.specs.Answer.{answer_code, answer_letter, answer_row}
use Rattle.wire.specs.Number.{bytes_of}
use Rattle.wire.specs.TradeReport.{frame_of}
use Rattle.wire.specs.declared.trade_report.TradeReport.{TradeReport}
use Rattle.day.specs.Call.{Call, of_line, of_operator, log_in, send, open_day, Reply, refused, ticket, answered, told, left, done}
use Rattle.day.specs.LineCalls.{record_at}
use Rattle.day.specs.State.{Day, fresh_day, line_of}
use Rattle.day.specs.Step.{Step, run, step}

-- a text as a symbol
abbrev pub symbol_text : List ℕ → List ℕ
symbol_text text = text ++ replicate (11 - length text) 32

abbrev pub marked_symbols : List (List ℕ)
marked_symbols = symbol_text (codes "A") ∷ symbol_text (codes "AB") ∷ symbol_text (codes "ABC") ∷ symbol_text (codes "B") ∷ symbol_text (codes "BA") ∷ []

abbrev pub marked_originators : List (List ℕ)
marked_originators = codes "QU" ∷ codes "JU" ∷ []

abbrev pub marked_rows : List BookRow
marked_rows =
    Flag 32 ∷ Flag 88
    ∷ Side 66 ∷ Side 83
    ∷ Value One 64 ∷ Value One 82
    ∷ Value Two 32 ∷ Value Two 70
    ∷ Value Three 32 ∷ Value Three 84
    ∷ Value Four 32 ∷ Value Four 73 ∷ Value Four 80
    ∷ Barred 32 70
    ∷ []

-- what a case alters in the first one's frame
pub record Changed : Type 0 where
  pub sequence : ℕ
  pub symbol : List ℕ
  pub id : ℕ
  pub flag : ℕ
  pub condition : List ℕ
  pub days : ℕ
  pub volume : ℕ

abbrev pub report_of : Changed → TradeReport
report_of c = record {
  originator = codes "QU";
  timestamp1 = 0;
  feed_sequence = c.sequence;
  participant_token = 0;
  timestamp2 = 0;
  symbol = c.symbol;
  trade_id = c.id;
  exempt_flag = c.flag;
  condition = c.condition;
  seller_days = c.days;
  side = 66;
  price = 10500000;
  volume = c.volume;
}

-- the first frame, by what cases alter: sequence, symbol, id, flag, condition, days, volume
abbrev pub trade_frame : ℕ → List ℕ → ℕ → ℕ → List ℕ → ℕ → ℕ → List ℕ
trade_frame sequence symbol id flag condition days volume =
    frame_of (report_of (record { sequence = sequence; symbol = symbol; id = id; flag = flag; condition = condition; days = days; volume = volume }))

abbrev pub abc : List ℕ
abc = symbol_text (codes "ABC")

-- a mass trading action from A to B at the SIP time
abbrev pub mass_frame : List ℕ
mass_frame =
    codes "1AU" ++ codes "QU" ++ bytes_of 8 0 ++ bytes_of 8 1 ++ bytes_of 8 0
    ++ symbol_text (codes "A") ++ symbol_text (codes "B") ++ codes "E" ++ bytes_of 8 5000

-- what a case says of what stands afterwards
pub data After : Type 0 where
  nothing : After
  -- the tape line
  tape : List ℕ → After
  -- the line's sheet of ABC: its high, its last and its volume
  sheet : Option ℕ → Option ℕ → ℕ → After
  last : Option ℕ → After
  next_id : ℕ → After
  expected_sequence : ℕ → After
  -- how many of the line's quote marks are barred
  marks : ℕ → After

pub record Case : Type 0 where
  pub number : ℕ
  pub opened : Bool
  pub frame : List ℕ
  pub letter : ℕ
  pub code : ℕ
  pub row : ℕ
  pub after : After

-- T, P, R and C
abbrev pub T : ℕ
T = 84

abbrev pub P : ℕ
P = 80

abbrev pub R : ℕ
R = 82

abbrev pub C : ℕ
C = 67

-- a case of a day that was opened
abbrev pub opens : ℕ → List ℕ → ℕ → ℕ → ℕ → After → Case
opens number frame letter code row after =
    record { number = number; opened = true; frame = frame; letter = letter; code = code; row = row; after = after }

abbrev pub cases : List Case
cases =
    opens 1 (trade_frame 1 abc 1 88 (codes "@F  ") 0 200) T 0 0 (tape (codes "1,5000,QU,ABC,1,X,@F  ,0,B,10500000,200" ++ (10 ∷ [])))
    ∷ opens 2 (trade_frame 1 abc 1 88 (codes "@F I") 0 200) T 0 0 (sheet None None 200)
    ∷ opens 3 (trade_frame 1 abc 1 88 (codes "@  P") 0 200) T 0 0 (last (Some 10500000))
    ∷ opens 4 (trade_frame 1 abc 1 32 (codes "@F  ") 0 200) R 31 10 (next_id 2)
    ∷ opens 5 (trade_frame 1 abc 2 88 (codes "@F  ") 0 200) R 92 3 (next_id 1)
    ∷ opens 6 (trade_frame 1 (31 ∷ codes "BC        ") 1 88 (codes "@F  ") 0 200) C 26 1 (expected_sequence 1)
    ∷ opens 7 (trade_frame 1 (symbol_text (codes "ABD")) 1 7 (codes "@F  ") 0 200) R 26 2 nothing
    ∷ opens 8 (trade_frame 1 abc 1 88 (codes "F@  ") 0 200) R 31 9 nothing
    ∷ opens 9 (trade_frame 1 abc 1 88 (codes "R   ") 61 200) R 32 11 nothing
    ∷ record { number = 10; opened = false; frame = trade_frame 1 abc 1 88 (codes "@F  ") 0 0; letter = R; code = 29; row = 14; after = nothing }
    ∷ opens 11 (trade_frame 0 abc 1 88 (codes "@F  ") 0 200) P 0 0 nothing
    ∷ opens 12 (take 71 (trade_frame 1 abc 1 88 (codes "@F  ") 0 200)) C 0 103 nothing
    ∷ opens 13 mass_frame T 0 0 (marks 4)
    ∷ []

-- The day starts at 1,000; the first line is logged in; the frame comes at SIP time 5,000, with a buffer of 128 bytes.

abbrev pub before : Bool → List Call
before opened = of_line 0 log_in ∷ cond opened (of_operator open_day ∷ []) []

abbrev pub played : Sets → Case → Step
played sets c = step sets (run sets (fresh_day marked_symbols marked_originators 1000 []) (before c.opened)) (of_line 0 (send 5000 c.frame 128))

abbrev pub barred : QuoteMark → ℕ
barred mark.Welcome = 0
barred mark.Barred = 1

abbrev pub barred_in : List MarketCenterRecord → ℕ
barred_in [] = 0
barred_in (r ∷ records) = barred r.quote_mark + barred_in records

-- the first line's record of ABC
abbrev pub abc_record : Day → MarketCenterRecord
abc_record day = record_at (line_of 0 day).records 2

-- what a step shows of what a case speaks of
abbrev pub shown : After → Step → After
shown nothing s = nothing
shown (tape line) s = tape s.wrote
shown (sheet high price volume) s = sheet (abc_record s.day).sheet.high (abc_record s.day).sheet.last (abc_record s.day).sheet.volume
shown (last price) s = last (abc_record s.day).sheet.last
shown (next_id id) s = next_id (abc_record s.day).next_trade_id
shown (expected_sequence sequence) s = expected_sequence (line_of 0 s.day).status.expected_sequence
shown (marks count) s = marks (barred_in (line_of 0 s.day).records)

-- the columns of the table, from the answer of the step; no other answer has a letter
abbrev pub replied : Case → Reply → After → Case
replied c (answered answer) after = record { number = c.number; opened = c.opened; frame = c.frame; letter = answer_letter answer; code = answer_code answer; row = answer_row answer; after = after }
replied c (refused refusal) after = record { number = c.number; opened = c.opened; frame = c.frame; letter = 0; code = 0; row = 0; after = after }
replied c (ticket number) after = record { number = c.number; opened = c.opened; frame = c.frame; letter = 0; code = 0; row = 0; after = after }
replied c told after = record { number = c.number; opened = c.opened; frame = c.frame; letter = 0; code = 0; row = 0; after = after }
replied c (left reason) after = record { number = c.number; opened = c.opened; frame = c.frame; letter = 0; code = 0; row = 0; after = after }
replied c done after = record { number = c.number; opened = c.opened; frame = c.frame; letter = 0; code = 0; row = 0; after = after }

abbrev pub outcome : Sets → Case → Case
outcome sets c = replied c (played sets c).said (shown c.after (played sets c))

-- every case comes out as the table has it
abbrev pub Marked : Type 0
Marked = (clean : Clean marked_rows) → map (outcome (sheet_sets marked_rows clean)) cases ≡ cases

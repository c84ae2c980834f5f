-- What a line's calls are answered and what they make of the line. They look at the market and at the line alone.
use Rattle.std.specs.Prelude.{ℕ, ◌+◌, Bool, true, false, not, ◌||◌, List, [], ◌∷◌, get_or, Some, None, Ok, Err, Option, Result, nat_le, nat_lt, slice_index_or, slice_set}
use Rattle.std.specs.Option.{is_some}
use Rattle.books.specs.Sets.{Sets}
use Rattle.inquiry.specs.Inquiry.{inquiry_bytes}
use Rattle.inquiry.specs.declared.inquiry.Inquiry.{Inquiry}
use Rattle.lines.specs.Judgement.{judged}
use Rattle.lines.specs.declared.judge.Message.{Message}
use Rattle.lines.specs.declared.judge.Message.TheVariants.{Trade, Mass}
use Rattle.marks.specs.Actions.{action_of}
use Rattle.marks.specs.Sweep.{swept, swept_count}
use Rattle.marks.specs.declared.range.SymbolRange.{SymbolRange}
use Rattle.marks.specs.declared.trading_action.TradingAction.{TradingAction}
use Rattle.rows.specs.declared.context.Context.{Context}
use Rattle.search.specs.Place.{place_of}
use Rattle.states.specs.SecurityStatus.{fresh_security}
use Rattle.states.specs.declared.line_status.LineStatus.{LineStatus}
use Rattle.states.specs.declared.refusal.Refusal.{Refusal}
use Rattle.states.specs.declared.refusal.Refusal.TheVariants.{NoSuchLine, AlreadyLoggedIn, NotLoggedIn, LineCut, FramesSpent, ShortBuffer, NotListed}
use Rattle.stats.specs.Entries.{center_entry}
use Rattle.stats.specs.Plain.{noted}
use Rattle.stats.specs.Records.{no_record}
use Rattle.stats.specs.declared.record.MarketCenterRecord.{MarketCenterRecord}
use Rattle.stats.specs.declared.sale.Sale.{Sale}
use Rattle.verdicts.specs.Row.{trade_number}
use Rattle.verdicts.specs.Answer.{failed}
use Rattle.verdicts.specs.declared.answer.Answer.TheVariants.{Taken}
use Rattle.verdicts.specs.declared.answer.Verdict.{Verdict}
use Rattle.verdicts.specs.declared.answer.Verdict.TheVariants.{PassedOver, Rejected, Cut}
use Rattle.verdicts.specs.declared.row.Row.{Row}
use Rattle.verdicts.specs.declared.row.Row.TheVariants as row
use Rattle.wire.specs.TradeReport.{fields_of}
use Rattle.wire.specs.declared.mass_action.MassAction.{MassAction}
use Rattle.wire.specs.declared.trade_report.TradeReport.{TradeReport}
use Rattle.day.specs.Call.{LineCall, log_in, send, inquire, hang_up, Reply, ticket, answered, told, left, Taken as TakenReport}
use Rattle.day.specs.Refusing.{Bar, bar_if, first_bar}
use Rattle.day.specs.State.{Market, Line, line_count}

-- frames that a line may consume
abbrev pub frame_limit : ℕ
frame_limit = 1000000

abbrev pub tape_room : ℕ
tape_room = 128

abbrev pub inquiry_room : ℕ
inquiry_room = 33

-- a ticket is of no use where its line is not logged in on this day
abbrev pub not_logged_in : Market → ℕ → Line → Bar
not_logged_in market number line = bar_if (nat_le (line_count market) number || not line.status.logged_in) NotLoggedIn

abbrev pub line_cut : Line → Bar
line_cut line = bar_if (is_some line.status.cut) LineCut

-- the refusals of each call, in their order
abbrev pub line_bars : Market → ℕ → Line → LineCall → List Bar
line_bars market number line log_in =
    bar_if (nat_le (line_count market) number) NoSuchLine
    ∷ bar_if line.status.logged_in AlreadyLoggedIn
    ∷ []
line_bars market number line (send time frame room) =
    not_logged_in market number line
    ∷ line_cut line
    ∷ bar_if (nat_le frame_limit line.status.consumed) FramesSpent
    ∷ bar_if (nat_lt room tape_room) ShortBuffer
    ∷ []
line_bars market number line (inquire time symbol room) =
    not_logged_in market number line
    ∷ line_cut line
    ∷ bar_if (nat_lt room inquiry_room) ShortBuffer
    ∷ bar_if (not (is_some (place_of market.symbols symbol))) NotListed
    ∷ []
line_bars market number line hang_up = not_logged_in market number line ∷ []

unfoldable pub line_refusal : Market → ℕ → Line → LineCall → Option Refusal
line_refusal market number line call = first_bar (line_bars market number line call)

-- what a call that is not refused comes to: the answer, the bytes of an inquiry, the report that was taken, and the line after it
pub record Turn : Type 0 where
  pub said : Reply
  pub bytes : List ℕ
  pub taken : Option TakenReport
  pub line : Line

abbrev pub quiet : Reply → Line → Turn
quiet said line = record { said = said; bytes = []; taken = None; line = line }

-- a record at a place, and the records with another at that place
abbrev pub record_at : List MarketCenterRecord → ℕ → MarketCenterRecord
record_at records place = slice_index_or records place no_record

abbrev pub changed_at : (MarketCenterRecord → MarketCenterRecord) → ℕ → List MarketCenterRecord → List MarketCenterRecord
changed_at change place records = slice_set records place (change (record_at records place))

abbrev pub id_consumed : MarketCenterRecord → MarketCenterRecord
id_consumed r = record { next_trade_id = r.next_trade_id + 1; quote_mark = r.quote_mark; sheet = r.sheet }

-- what the statistics read of a report
abbrev pub sale_of : TradeReport → Sale
sale_of report = record { condition = report.condition; price = report.price; volume = report.volume }

abbrev pub report_taken : TradeReport → MarketCenterRecord → MarketCenterRecord
report_taken report r = record { next_trade_id = r.next_trade_id + 1; quote_mark = r.quote_mark; sheet = noted r.sheet (center_entry (sale_of report)) }

-- the line's expected trade id at a place
abbrev pub expected_id : List MarketCenterRecord → Option ℕ → ℕ
expected_id records None = 0
expected_id records (Some place) = (record_at records place).next_trade_id

-- what the rows look at
abbrev pub context_of : Market → ℕ → Line → ℕ → Option ℕ → Context
context_of market number line time place = record {
  originator = slice_index_or market.originators number [];
  expected_sequence = line.status.expected_sequence;
  security = place;
  expected_trade_id = expected_id line.records place;
  phase = market.phase;
  start = market.start;
  sip_time = time;
}

-- taken and rejected frames are consumed
abbrev pub frame_consumed : LineStatus → LineStatus
frame_consumed s = record { logged_in = s.logged_in; cut = s.cut; expected_sequence = s.expected_sequence + 1; consumed = s.consumed + 1 }

-- a report that is rejected at row 5 or later consumes its trade id
abbrev pub consumes_id : Row → Bool
consumes_id (row.Header r) = false
consumes_id row.Originator = false
consumes_id row.FeedSequence = false
consumes_id (row.Trade r) = nat_le 5 (trade_number r)
consumes_id (row.MassAction r) = false

abbrev pub after_reject : Bool → Option ℕ → List MarketCenterRecord → List MarketCenterRecord
after_reject consumes None records = records
after_reject false (Some place) records = records
after_reject true (Some place) records = changed_at id_consumed place records

-- what becomes of a frame that fails a row
abbrev pub after_verdict : Line → Option ℕ → Verdict → Line
after_verdict line place PassedOver = line
after_verdict line place (Rejected reason) = record { status = frame_consumed line.status; records = after_reject (consumes_id reason.row) place line.records }
after_verdict line place (Cut reason) = record {
  status = record { logged_in = line.status.logged_in; cut = Some reason; expected_sequence = line.status.expected_sequence; consumed = line.status.consumed };
  records = line.records;
}

abbrev pub range_of : MassAction → SymbolRange
range_of action = record { first = action.first; last = action.last }

abbrev pub marked_by : Option TradingAction → SymbolRange → List (List ℕ) → List MarketCenterRecord → List MarketCenterRecord
marked_by None range symbols records = records
marked_by (Some action) range symbols records = swept action range symbols records

abbrev pub counted_by : Option TradingAction → SymbolRange → List (List ℕ) → List MarketCenterRecord → ℕ
counted_by None range symbols records = 0
counted_by (Some action) range symbols records = swept_count action range symbols records

abbrev pub trade_turn : ℕ → Line → ℕ → Option ℕ → TradeReport → Turn
trade_turn number line time None report = quiet (answered (Taken 0)) line
trade_turn number line time (Some place) report = record {
  said = answered (Taken 0);
  bytes = [];
  taken = Some (record { line = number; place = place; time = time; report = report });
  line = record { status = frame_consumed line.status; records = changed_at (report_taken report) place line.records };
}

abbrev pub mass_turn : Market → Line → MassAction → Turn
mass_turn market line action =
    quiet (answered (Taken (counted_by (action_of action.action) (range_of action) market.symbols line.records)))
    (record { status = frame_consumed line.status; records = marked_by (action_of action.action) (range_of action) market.symbols line.records })

-- by the place of the security that the frame names, and the judgement of the frame
unfoldable pub send_turn : Market → ℕ → Line → ℕ → Option ℕ → Result Message Verdict → Turn
send_turn market number line time place (Err verdict) = quiet (answered (failed verdict)) (after_verdict line place verdict)
send_turn market number line time place (Ok (Trade report)) = trade_turn number line time place report
send_turn market number line time place (Ok (Mass action)) = mass_turn market line action

-- where the security that a frame names as a trade report does stands in the list
abbrev pub frame_place : Market → List ℕ → Option ℕ
frame_place market frame = place_of market.symbols (fields_of frame).symbol

abbrev pub place_or0 : Option ℕ → ℕ
place_or0 None = 0
place_or0 (Some place) = place

-- what a line is told of the security at a place
abbrev pub inquiry_of : Market → Line → ℕ → List ℕ → ℕ → Inquiry
inquiry_of market line time symbol place = record {
  sip_time = time;
  symbol = symbol;
  next_trade_id = (record_at line.records place).next_trade_id;
  action_number = (get_or market.securities place fresh_security).posted + 1;
  state = (get_or market.securities place fresh_security).state;
}

abbrev pub inquired : Market → Line → ℕ → List ℕ → ℕ → List ℕ
inquired market line time symbol place = inquiry_bytes (inquiry_of market line time symbol place)

abbrev pub seated : Bool → Line → Line
seated inside line = record {
  status = record { logged_in = inside; cut = None; expected_sequence = line.status.expected_sequence; consumed = line.status.consumed };
  records = line.records;
}

unfoldable pub line_turn : Sets → Market → ℕ → Line → LineCall → Turn
line_turn sets market number line log_in = quiet (ticket number) (seated true line)
line_turn sets market number line (send time frame room) =
    send_turn market number line time (frame_place market frame) (judged sets (context_of market number line time (frame_place market frame)) frame)
line_turn sets market number line (inquire time symbol room) = record {
  said = told;
  bytes = inquired market line time symbol (place_or0 (place_of market.symbols symbol));
  taken = None;
  line = line;
}
line_turn sets market number line hang_up = quiet (left line.status.cut) (seated false line)

-- A call on a day, and the run of a list of calls.
use Rattle.std.specs.Prelude.{ℕ, ◌+◌, List, [], ◌∷◌, ◌++◌, length, drop, Some, None, Option, slice_index_or, slice_set}
use Rattle.books.specs.Sets.{Sets}
use Rattle.states.specs.declared.refusal.Refusal.{Refusal}
use Rattle.stats.specs.Entries.{consolidated_entry}
use Rattle.stats.specs.Plain.{noted}
use Rattle.stats.specs.declared.plain_sheet.PlainSheet.{PlainSheet}
use Rattle.stats.specs.declared.sale.LastSale.{LastSale}
use Rattle.stats.specs.declared.sale.LineSale.{LineSale}
use Rattle.tape.specs.TapeLine.{tape_line}
use Rattle.day.specs.Call.{Call, of_line, of_operator, Reply, refused, done, Taken}
use Rattle.day.specs.LineCalls.{Turn, line_refusal, line_turn, sale_of}
use Rattle.day.specs.Operator.{operator_refusal, operated}
use Rattle.day.specs.State.{Day, Market, line_of, no_sheet, security_count, with_part}

-- what a call comes to: the answer, the bytes that it wrote, the report that was taken, and the day after it
pub record Step : Type 0 where
  pub said : Reply
  pub wrote : List ℕ
  pub taken : Option Taken
  pub day : Day

-- a taken report with its line, for the consolidated sheet
abbrev pub line_sale_of : Taken → LineSale
line_sale_of t = record { line = t.line; sale = sale_of t.report }

-- the consolidated sheets after a report: its security's has it
abbrev pub sheets_after : Option Taken → List (PlainSheet LastSale) → List (PlainSheet LastSale)
sheets_after None sheets = sheets
sheets_after (Some t) sheets = slice_set sheets t.place (noted (slice_index_or sheets t.place no_sheet) (consolidated_entry (line_sale_of t)))

abbrev pub serial_after : Option Taken → ℕ → ℕ
serial_after None serial = serial
serial_after (Some t) serial = serial + 1

-- a taken report writes its tape line, with the next serial
abbrev pub writing : ℕ → Option Taken → List ℕ → List ℕ
writing serial None bytes = bytes
writing serial (Some t) bytes = tape_line (serial + 1) t.time t.report

abbrev pub turned : Day → ℕ → Turn → Step
turned day number turn = record {
  said = turn.said;
  wrote = writing day.serial turn.taken turn.bytes;
  taken = turn.taken;
  day = record {
    market = day.market;
    statuses = slice_set day.statuses number turn.line.status;
    records = with_part (security_count day.market) number turn.line.records day.records;
    sheets = sheets_after turn.taken day.sheets;
    serial = serial_after turn.taken day.serial;
  };
}

-- a refused call alters nothing and writes nothing
abbrev pub refusing : Day → Refusal → Step
refusing day refusal = record { said = refused refusal; wrote = []; taken = None; day = day }

abbrev pub unless_barred : Option Refusal → Day → Step → Step
unless_barred (Some refusal) day step = refusing day refusal
unless_barred None day step = step

abbrev pub market_after : Day → Market → Step
market_after day market = record {
  said = done;
  wrote = [];
  taken = None;
  day = record { market = market; statuses = day.statuses; records = day.records; sheets = day.sheets; serial = day.serial };
}

unfoldable pub step : Sets → Day → Call → Step
step sets day (of_line number call) =
    unless_barred (line_refusal day.market number (line_of number day) call) day
    (turned day number (line_turn sets day.market number (line_of number day) call))
step sets day (of_operator call) = unless_barred (operator_refusal day.market call) day (market_after day (operated day.market call))

-- the day after a list of calls
unfoldable pub run : Sets → Day → List Call → Day
run sets day [] = day
run sets day (call ∷ calls) = run sets (step sets day call).day calls

-- what a caller has of a call: the answer, and what was written at the front of the buffer
pub record Told : Type 0 where
  pub call : Call
  pub said : Reply
  pub wrote : List ℕ

abbrev pub told_of : Call → Step → Told
told_of call step = record { call = call; said = step.said; wrote = step.wrote }

-- what was told, call by call
unfoldable pub tells : Sets → Day → List Call → List Told
tells sets day [] = []
tells sets day (call ∷ calls) = told_of call (step sets day call) ∷ tells sets (step sets day call).day calls

-- a buffer after a call: what was written in front, and the bytes past it as they were
abbrev pub buffer_after : List ℕ → List ℕ → List ℕ
buffer_after wrote buffer = wrote ++ drop (length wrote) buffer

-- What a line of a script asks for, as plain data.
use Rattle.std.specs.Prelude.{ℕ, List, Some, None, Ok, Err, Option, Result}
use Rattle.states.specs.declared.security_status.PostedAction.{PostedAction}
use Rattle.scripts.specs.declared.malformed.Malformed.{Malformed}
use Rattle.scripts.specs.declared.script_call.ScriptCall.{ScriptCall}
use Rattle.scripts.specs.declared.script_call.ScriptCall.TheVariants.{LogIn, Send, Inquire, HangUp, Open, Close, Post, CenterSheet, ConsolidatedSheet}

-- a frame is the word that has its bytes in hex
pub data Asked : Type 0 where
  log_in : (line : ℕ) → Asked
  send : (line time buffer : ℕ) → (hex : List ℕ) → Asked
  inquire : (line time buffer : ℕ) → (symbol : List ℕ) → Asked
  hang_up : (line : ℕ) → Asked
  open_day : Asked
  close_day : Asked
  post : (symbol : List ℕ) → (action : PostedAction) → Asked
  center_sheet : (line : ℕ) → (symbol : List ℕ) → Asked
  consolidated_sheet : (symbol : List ℕ) → Asked

-- a call of the program, as data
abbrev pub asked : ScriptCall → Asked
asked (LogIn line) = log_in line
asked (Send request hex) = send request.line request.time request.buffer hex.now
asked (Inquire request symbol) = inquire request.line request.time request.buffer symbol
asked (HangUp line) = hang_up line
asked Open = open_day
asked Close = close_day
asked (Post symbol action) = post symbol action
asked (CenterSheet line symbol) = center_sheet line symbol
asked (ConsolidatedSheet symbol) = consolidated_sheet symbol

abbrev pub asked_of : Result ScriptCall Malformed → Result Asked Malformed
asked_of (Ok call) = Ok (asked call)
asked_of (Err fault) = Err fault

abbrev pub asked_in : Result (Option ScriptCall) Malformed → Result (Option Asked) Malformed
asked_in (Ok None) = Ok None
asked_in (Ok (Some call)) = Ok (Some (asked call))
asked_in (Err fault) = Err fault

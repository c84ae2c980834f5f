-- The calls of a practice day as data: all that is handed in, a ticket by its line and a buffer by its length.
use Rattle.std.specs.Prelude.{ℕ, List, Option}
use Rattle.states.specs.declared.refusal.Refusal.{Refusal}
use Rattle.states.specs.declared.security_status.PostedAction.{PostedAction}
use Rattle.verdicts.specs.declared.answer.Answer.{Answer}
use Rattle.verdicts.specs.declared.answer.Reason.{Reason}
use Rattle.wire.specs.declared.trade_report.TradeReport.{TradeReport}

pub data LineCall : Type 0 where
  log_in : LineCall
  -- the SIP time, the frame, and the length of the buffer
  send : ℕ → List ℕ → ℕ → LineCall
  -- the SIP time, the symbol, and the length of the buffer
  inquire : ℕ → List ℕ → ℕ → LineCall
  hang_up : LineCall

pub data OperatorCall : Type 0 where
  open_day : OperatorCall
  post : List ℕ → PostedAction → OperatorCall
  close_day : OperatorCall

-- a line's call, with the line's number, or the operator's
pub data Call : Type 0 where
  of_line : ℕ → LineCall → Call
  of_operator : OperatorCall → Call

-- what a call is answered
pub data Reply : Type 0 where
  refused : Refusal → Reply
  -- a ticket for the line of this number
  ticket : ℕ → Reply
  answered : Answer → Reply
  -- the inquiry's bytes are in the buffer
  told : Reply
  -- why the line was cut, if it was
  left : Option Reason → Reply
  done : Reply

-- a report that was taken: the line that it came on, the place of its security, the SIP time, and its fields
pub record Taken : Type 0 where
  pub line : ℕ
  pub place : ℕ
  pub time : ℕ
  pub report : TradeReport

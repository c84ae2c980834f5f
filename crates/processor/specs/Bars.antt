-- The first refusal of each call, if one applies.
use Rattle.std.specs.Prelude.{ℕ, List, [], Some, None, Ok, Err, Option, Result}
use Rattle.states.specs.declared.refusal.Refusal.{Refusal}
use Rattle.states.specs.declared.security_status.PostedAction.{PostedAction}
use Rattle.day.specs.Call.{LineCall, OperatorCall, inquire, post, send}
use Rattle.day.specs.LineCalls.{line_bars}
use Rattle.day.specs.Operator.{operator_bars}
use Rattle.day.specs.Refusing.{first_bar}
use Rattle.day.specs.State.{Day, line_of}

abbrev pub line_bar : Day → ℕ → LineCall → Option Refusal
line_bar d line call = first_bar (line_bars d.market line (line_of line d) call)

-- the refusals of a send look at no frame and no time, and those of an inquiry at no time
abbrev pub send_bar : Day → ℕ → ℕ → Option Refusal
send_bar d line room = line_bar d line (send 0 [] room)

abbrev pub inquire_bar : Day → ℕ → List ℕ → ℕ → Option Refusal
inquire_bar d line symbol room = line_bar d line (inquire 0 symbol room)

abbrev pub operator_bar : Day → OperatorCall → Option Refusal
operator_bar d call = first_bar (operator_bars d.market call)

abbrev pub post_bar : Day → List ℕ → PostedAction → Option Refusal
post_bar d symbol action = operator_bar d (post symbol action)

-- a call may go on unless something bars it
abbrev pub allowed : Option Refusal → Result (Unit {0}) Refusal
allowed None = Ok tt
allowed (Some refusal) = Err refusal

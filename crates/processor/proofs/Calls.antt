-- A call on a day, by its first refusal.
use Rattle.std.proofs.Common.{◌≡◌, ℕ, List, Some, None, Ok, Err, Option, refl, sym, ap}
use Rattle.books.specs.Sets.{Sets}
use Rattle.states.specs.declared.refusal.Refusal.{Refusal}
use Rattle.day.specs.Call.{LineCall, OperatorCall, of_line, of_operator, send}
use Rattle.day.specs.LineCalls.{line_refusal, line_turn}
use Rattle.day.specs.Operator.{operated, operator_refusal}
use Rattle.day.specs.State.{Day, line_of}
use Rattle.day.specs.Step.{market_after, refusing, step, turned, unless_barred}
use Rattle.processor.specs.Bars.{allowed, line_bar, operator_bar}
use Rattle.processor.specs.Turns.{frame_turn}

barred : (o : Option Refusal) (refusal : Refusal) → Err refusal ≡ allowed o → o ≡ Some refusal
barred None refusal e = cc
barred (Some other) refusal e = cc

free : (o : Option Refusal) → Ok tt ≡ allowed o → o ≡ None
free None e = refl
free (Some other) e = cc

pub line_refused : (sets : Sets) (d : Day) (line : ℕ) (call : LineCall) (refusal : Refusal) → Err refusal ≡ allowed (line_bar d line call) → refusing d refusal ≡ step sets d (of_line line call)
unfolding step line_refusal
line_refused sets d line call refusal e = sym (ap (λ r. unless_barred r d (turned d line (line_turn sets d.market line (line_of line d) call))) (barred (line_bar d line call) refusal e))

pub line_goes : (sets : Sets) (d : Day) (line : ℕ) (call : LineCall) → Ok tt ≡ allowed (line_bar d line call) → turned d line (line_turn sets d.market line (line_of line d) call) ≡ step sets d (of_line line call)
unfolding step line_refusal
line_goes sets d line call e = sym (ap (λ r. unless_barred r d (turned d line (line_turn sets d.market line (line_of line d) call))) (free (line_bar d line call) e))

pub send_goes : (sets : Sets) (d : Day) (line time : ℕ) (frame : List ℕ) (room : ℕ) → Ok tt ≡ allowed (line_bar d line (send time frame room)) → turned d line (frame_turn sets d line time frame) ≡ step sets d (of_line line (send time frame room))
unfolding line_turn
send_goes sets d line time frame room e = line_goes sets d line (send time frame room) e

pub operator_refused : (sets : Sets) (d : Day) (call : OperatorCall) (refusal : Refusal) → Err refusal ≡ allowed (operator_bar d call) → refusing d refusal ≡ step sets d (of_operator call)
unfolding step operator_refusal
operator_refused sets d call refusal e = sym (ap (λ r. unless_barred r d (market_after d (operated d.market call))) (barred (operator_bar d call) refusal e))

pub operator_goes : (sets : Sets) (d : Day) (call : OperatorCall) → Ok tt ≡ allowed (operator_bar d call) → market_after d (operated d.market call) ≡ step sets d (of_operator call)
unfolding step operator_refusal
operator_goes sets d call e = sym (ap (λ r. unless_barred r d (market_after d (operated d.market call))) (free (operator_bar d call) e))

-- A refused call alters nothing: a call that is not refused never answers as if it were.
use Rattle.std.proofs.Common.{◌≡◌, ℕ, [], Some, None, Ok, Err, Option, Result, refl, arith}
use Rattle.books.specs.Sets.{Sets}
use Rattle.lines.specs.Judgement.{judged}
use Rattle.lines.specs.declared.judge.Message.{Message}
use Rattle.lines.specs.declared.judge.Message.TheVariants.{Trade, Mass}
use Rattle.states.specs.declared.refusal.Refusal.{Refusal}
use Rattle.verdicts.specs.declared.answer.Verdict.{Verdict}
use Rattle.day.specs.Call.{of_line, of_operator, LineCall, log_in, send, inquire, hang_up, Reply, refused, done}
use Rattle.day.specs.Laws.{RefusedAltersNothing}
use Rattle.day.specs.LineCalls.{context_of, frame_place, line_refusal, line_turn, send_turn}
use Rattle.day.specs.Operator.{operated, operator_refusal}
use Rattle.day.specs.State.{Day, Line, Market, line_of}
use Rattle.day.specs.Step.{Step, market_after, step, turned, unless_barred}

-- an answer that is no refusal
abbrev Given : Reply → Type 0
Given reply = (refusal : Refusal) → reply ≡ refused refusal → ⊥

sent_given : (market : Market) (number : ℕ) (line : Line) (time : ℕ) (place : Option ℕ) (verdict : Result Message Verdict) → Given (send_turn market number line time place verdict).said
unfolding send_turn
sent_given market number line time place (Err verdict) refusal e = let z : ◌≡◌ {A = ℕ} 0 1 = cc in omega arith
sent_given market number line time None (Ok (Trade report)) refusal e = let z : ◌≡◌ {A = ℕ} 0 1 = cc in omega arith
sent_given market number line time (Some place) (Ok (Trade report)) refusal e = let z : ◌≡◌ {A = ℕ} 0 1 = cc in omega arith
sent_given market number line time place (Ok (Mass action)) refusal e = let z : ◌≡◌ {A = ℕ} 0 1 = cc in omega arith

turn_given : (sets : Sets) (market : Market) (number : ℕ) (line : Line) (call : LineCall) → Given (line_turn sets market number line call).said
unfolding line_turn
turn_given sets market number line log_in refusal e = let z : ◌≡◌ {A = ℕ} 0 1 = cc in omega arith
turn_given sets market number line (send time frame room) refusal e =
    sent_given market number line time (frame_place market frame) (judged sets (context_of market number line time (frame_place market frame)) frame) refusal e
turn_given sets market number line (inquire time symbol room) refusal e = let z : ◌≡◌ {A = ℕ} 0 1 = cc in omega arith
turn_given sets market number line hang_up refusal e = let z : ◌≡◌ {A = ℕ} 0 1 = cc in omega arith

done_given : Given done
done_given refusal e = let z : ◌≡◌ {A = ℕ} 0 1 = cc in omega arith

refused_by : (barred : Option Refusal) (day : Day) (went : Step) (refusal : Refusal) → Given went.said → (unless_barred barred day went).said ≡ refused refusal →
    ((unless_barred barred day went).day ≡ day) × ((unless_barred barred day went).wrote ≡ [])
refused_by (Some bar) day went refusal given e = (refl, refl)
refused_by None day went refusal given e = absurd (given refusal e)

pub refused_alters_nothing : RefusedAltersNothing
unfolding step
refused_alters_nothing sets day (of_line number call) refusal e =
    let turn = line_turn sets day.market number (line_of number day) call in
    refused_by (line_refusal day.market number (line_of number day) call) day (turned day number turn) refusal (turn_given sets day.market number (line_of number day) call) e
refused_alters_nothing sets day (of_operator call) refusal e =
    refused_by (operator_refusal day.market call) day (market_after day (operated day.market call)) refusal done_given e

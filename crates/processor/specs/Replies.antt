-- What each call answers, as the reply that a day gives.
use Rattle.std.specs.Prelude.{◌≡◌, ℕ, Ok, Err, Option, Result}
use Rattle.processor.specs.declared.ticket.Ticket.{Ticket}
use Rattle.states.specs.declared.refusal.Refusal.{Refusal}
use Rattle.verdicts.specs.declared.answer.Answer.{Answer}
use Rattle.verdicts.specs.declared.answer.Reason.{Reason}
use Rattle.day.specs.Call.{Reply, answered, done, left, refused, ticket, told}

abbrev pub sent_reply : Result Answer Refusal → Reply
sent_reply (Ok answer) = answered answer
sent_reply (Err refusal) = refused refusal

abbrev pub logged_reply : ℕ → Result (Unit {0}) Refusal → Reply
logged_reply line (Ok u) = ticket line
logged_reply line (Err refusal) = refused refusal

abbrev pub told_reply : Result (Unit {0}) Refusal → Reply
told_reply (Ok u) = told
told_reply (Err refusal) = refused refusal

abbrev pub left_reply : Result (Option Reason) Refusal → Reply
left_reply (Ok cut) = left cut
left_reply (Err refusal) = refused refusal

abbrev pub done_reply : Result (Unit {0}) Refusal → Reply
done_reply (Ok u) = done
done_reply (Err refusal) = refused refusal

abbrev pub ticket_reply : Result Ticket Refusal → Reply
ticket_reply (Ok t) = ticket t.line
ticket_reply (Err refusal) = refused refusal

abbrev pub hung_reply : Result (Option Reason) (Refusal × Ticket) → Reply
hung_reply (Ok cut) = left cut
hung_reply (Err pair) = refused pair.0

-- a refused hang-up hands back the same ticket
abbrev pub HandedBack : Ticket → Result (Option Reason) (Refusal × Ticket) → Type 0
HandedBack t (Ok cut) = Unit {0}
HandedBack t (Err pair) = pair.1 ≡ t

-- The answer to an inquiry: 33 bytes, kind cS.
use Rattle.std.specs.Prelude.{ℕ, cond, List, [], ◌∷◌, ◌++◌, length, drop, Ok, Err, codes, Result, nat_le}
use Rattle.wire.specs.Number.{bytes_of}
use Rattle.wire.specs.declared.trade_report.WriteRefusal.{WriteRefusal}
use Rattle.wire.specs.declared.trade_report.WriteRefusal.TheVariants.{ShortBuffer}
use Rattle.inquiry.specs.SecurityState.{state_letter}
use Rattle.inquiry.specs.declared.inquiry.Inquiry.{Inquiry}

-- field after field: version and kind, the processor's own originator, SIP time, symbol, next trade id, action number,
-- the letter of the state
abbrev pub inquiry_bytes : Inquiry → List ℕ
inquiry_bytes q =
    codes "1cS"
    ++ codes "SU"
    ++ bytes_of 8 q.sip_time
    ++ q.symbol
    ++ bytes_of 4 q.next_trade_id
    ++ bytes_of 4 q.action_number
    ++ (state_letter q.state ∷ [])

-- it is written where the buffer has 33 bytes
abbrev pub writing_inquiry : List ℕ → Result (Unit {0}) WriteRefusal
writing_inquiry buffer = cond (nat_le 33 (length buffer)) (Ok tt) (Err ShortBuffer)

-- what the buffer then holds: the answer in front, or all as it was
abbrev pub with_inquiry : Inquiry → List ℕ → List ℕ
with_inquiry q buffer = cond (nat_le 33 (length buffer)) (inquiry_bytes q ++ drop 33 buffer) buffer

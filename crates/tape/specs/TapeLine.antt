-- The tape line: what a taken trade report puts at the front of the sender's buffer.
use Rattle.std.specs.Prelude.{ℕ, cond, List, [], ◌∷◌, ◌++◌, length, drop, Ok, Err, decimal, Result, nat_le}
use Rattle.text.specs.Symbol.{text_of}
use Rattle.wire.specs.declared.trade_report.TradeReport.{TradeReport}
use Rattle.wire.specs.declared.trade_report.WriteRefusal.{WriteRefusal}
use Rattle.wire.specs.declared.trade_report.WriteRefusal.TheVariants.{ShortBuffer}

-- when the report was taken, from whom, and of which security
abbrev pub origin_fields : ℕ → TradeReport → List (List ℕ)
origin_fields time r = decimal time ∷ r.originator ∷ text_of r.symbol ∷ []

-- the report's number and the terms of the trade
abbrev pub term_fields : TradeReport → List (List ℕ)
term_fields r = decimal r.trade_id ∷ (r.exempt_flag ∷ []) ∷ r.condition ∷ decimal r.seller_days ∷ []

-- what was dealt
abbrev pub deal_fields : TradeReport → List (List ℕ)
deal_fields r = (r.side ∷ []) ∷ decimal r.price ∷ decimal r.volume ∷ []

-- the ten fields behind the serial
unfoldable pub body_fields : ℕ → TradeReport → List (List ℕ)
body_fields time r = origin_fields time r ++ (term_fields r ++ deal_fields r)

-- the eleven fields of a line; the serial counts the reports taken, from 1
unfoldable pub tape_fields : ℕ → ℕ → TradeReport → List (List ℕ)
tape_fields serial time r = decimal serial ∷ body_fields time r

-- texts, each behind a separator
unfoldable pub behind : ℕ → List (List ℕ) → List ℕ
behind sep [] = []
behind sep (text ∷ texts) = sep ∷ (text ++ behind sep texts)

-- a line without its serial: each field behind a comma (44), and a byte 10 at the end
unfoldable pub tape_body : ℕ → TradeReport → List ℕ
tape_body time r = behind 44 (body_fields time r) ++ (10 ∷ [])

-- the serial and what stands behind it
unfoldable pub tape_line : ℕ → ℕ → TradeReport → List ℕ
tape_line serial time r = decimal serial ++ tape_body time r

-- a line is written where the buffer has 128 bytes, more than any line takes; the answer is the line's length
abbrev pub writing_line : List ℕ → List ℕ → Result ℕ WriteRefusal
writing_line line buffer = cond (nat_le 128 (length buffer)) (Ok (length line)) (Err ShortBuffer)

-- what the buffer then holds: the line in front, or all as it was
abbrev pub with_line : List ℕ → List ℕ → List ℕ
with_line line buffer = cond (nat_le 128 (length buffer)) (line ++ drop (length line) buffer) buffer

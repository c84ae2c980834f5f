-- The texts of a tape line, pushed one behind another, are the line.
use Rattle.std.proofs.Common.{◌≡◌, ℕ, List, [], ◌∷◌, ◌++◌, decimal}
use Rattle.std.proofs.lemmas.List.{append_assoc, append-nil}
use Rattle.text.specs.Symbol.{text_of}
use Rattle.wire.specs.declared.trade_report.TradeReport.{TradeReport}
use Rattle.tape.specs.TapeLine.{behind, body_fields, tape_body, tape_line}

-- twelve texts
regroup : (a b c d e f g h i j k l : List ℕ) → a ++ b ++ c ++ d ++ e ++ f ++ g ++ h ++ i ++ j ++ k ++ l ≡ a ++ ((b ++ (c ++ (d ++ (e ++ (f ++ (g ++ (h ++ (i ++ (j ++ (k ++ [])))))))))) ++ l)
regroup a b c d e f g h i j k l = simp (append_assoc, append-nil)

pub line_pushed : (serial time : ℕ) (r : TradeReport) → [] ++ decimal serial ++ 44 ∷ decimal time ++ 44 ∷ r.originator ++ 44 ∷ text_of r.symbol ++ 44 ∷ decimal r.trade_id ++ 44 ∷ (r.exempt_flag ∷ []) ++ 44 ∷ r.condition ++ 44 ∷ decimal r.seller_days ++ 44 ∷ (r.side ∷ []) ++ 44 ∷ decimal r.price ++ 44 ∷ decimal r.volume ++ 10 ∷ [] ≡ tape_line serial time r
unfolding behind body_fields tape_body tape_line
line_pushed serial time r =
    regroup (decimal serial) (44 ∷ decimal time) (44 ∷ r.originator) (44 ∷ text_of r.symbol) (44 ∷ decimal r.trade_id) (44 ∷ (r.exempt_flag ∷ []))
    (44 ∷ r.condition) (44 ∷ decimal r.seller_days) (44 ∷ (r.side ∷ [])) (44 ∷ decimal r.price) (44 ∷ decimal r.volume) (10 ∷ [])

-- Rows: what has to hold, and what the processor does otherwise.
use Rattle.std.specs.Prelude.{Bool, cond, List, [], ◌∷◌, Some, None, Option}
use Rattle.verdicts.specs.declared.answer.Verdict.{Verdict}
use Rattle.verdicts.specs.declared.answer.Verdict.TheVariants.{PassedOver, Rejected, Cut}
use Rattle.verdicts.specs.declared.code.Code.{Code}
use Rattle.verdicts.specs.declared.row.Row.{Row}

pub record Asked : Type 0 where
  pub holds : Bool
  pub otherwise : Verdict

abbrev pub pass_unless : Bool → Asked
pass_unless holds = record { holds = holds; otherwise = PassedOver }

abbrev pub reject_unless : Bool → Code → Row → Asked
reject_unless holds code row = record { holds = holds; otherwise = Rejected (record { code = code; row = row }) }

abbrev pub cut_unless : Bool → Code → Row → Asked
cut_unless holds code row = record { holds = holds; otherwise = Cut (record { code = code; row = row }) }

-- what one row comes to
abbrev pub failing : Asked → Option Verdict
failing asked = cond asked.holds None (Some asked.otherwise)

-- top to bottom: the first row that does not hold answers
abbrev pub first_failing : List Asked → Option Verdict
first_failing [] = None
first_failing (asked ∷ rest) = cond asked.holds (first_failing rest) (Some asked.otherwise)

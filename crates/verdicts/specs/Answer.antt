-- The answer to a frame: a letter, a code, a row and a count.
use Rattle.std.specs.Prelude.{ℕ}
use Rattle.verdicts.specs.Code.{code_number}
use Rattle.verdicts.specs.Row.{row_number}
use Rattle.verdicts.specs.declared.answer.Answer.{Answer}
use Rattle.verdicts.specs.declared.answer.Answer.TheVariants.{Taken, PassedOver, Rejected, Cut}
use Rattle.verdicts.specs.declared.answer.Verdict.{Verdict}
use Rattle.verdicts.specs.declared.answer.Verdict.TheVariants as verdict

-- the answer to a frame that fails a row
abbrev pub failed : Verdict → Answer
failed verdict.PassedOver = PassedOver
failed (verdict.Rejected reason) = Rejected reason
failed (verdict.Cut reason) = Cut reason

-- T, P, R or C
abbrev pub answer_letter : Answer → ℕ
answer_letter (Taken count) = 84
answer_letter PassedOver = 80
answer_letter (Rejected reason) = 82
answer_letter (Cut reason) = 67

abbrev pub answer_code : Answer → ℕ
answer_code (Taken count) = 0
answer_code PassedOver = 0
answer_code (Rejected reason) = code_number reason.code
answer_code (Cut reason) = code_number reason.code

abbrev pub answer_row : Answer → ℕ
answer_row (Taken count) = 0
answer_row PassedOver = 0
answer_row (Rejected reason) = row_number reason.row
answer_row (Cut reason) = row_number reason.row

abbrev pub answer_count : Answer → ℕ
answer_count (Taken count) = count
answer_count PassedOver = 0
answer_count (Rejected reason) = 0
answer_count (Cut reason) = 0

-- What the rows of a frame come to.
use Rattle.std.specs.Prelude.{Some, None, Ok, Err, Option, Result}
use Rattle.verdicts.specs.declared.answer.Verdict.{Verdict}

-- the frame's fields where no row fails, else what becomes of the frame
abbrev pub judgement : {A : Type 0} → Option Verdict → A → Result A Verdict
judgement None fields = Ok fields
judgement (Some verdict) fields = Err verdict

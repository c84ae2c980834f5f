-- The marked cases, computed.
use Rattle.std.proofs.Common.{refl}
use Rattle.std.specs.Fmt.{digits}
use Rattle.conditions.specs.Condition.{four_effects}
use Rattle.conditions.specs.Matrix.{row_of}
use Rattle.lines.specs.Judgement.{judged}
use Rattle.marks.specs.Sweep.{swept, swept_count}
use Rattle.search.specs.Place.{place_of}
use Rattle.tape.specs.TapeLine.{behind, body_fields, tape_body, tape_line}
use Rattle.wire.specs.Number.{bytes_of, value_after, value_of}
use Rattle.day.specs.LineCalls.{line_refusal, line_turn, send_turn}
use Rattle.day.specs.Marked.{Marked}
use Rattle.day.specs.Operator.{operated, operator_refusal}
use Rattle.day.specs.Step.{run, step}

pub marked : Marked
unfolding digits four_effects row_of judged swept swept_count place_of behind body_fields tape_body tape_line bytes_of value_after value_of line_refusal line_turn send_turn operated operator_refusal run step
marked clean = refl

-- What a send that is not refused comes to.
use Rattle.std.specs.Prelude.{ℕ, List, Option, Result}
use Rattle.books.specs.Sets.{Sets}
use Rattle.lines.specs.Judgement.{judged}
use Rattle.lines.specs.declared.judge.Message.{Message}
use Rattle.verdicts.specs.declared.answer.Verdict.{Verdict}
use Rattle.day.specs.LineCalls.{Turn, context_of, frame_place, send_turn}
use Rattle.day.specs.State.{Day, line_of}

abbrev pub judged_turn : Day → ℕ → ℕ → Option ℕ → Result Message Verdict → Turn
judged_turn d line time place judgement = send_turn d.market line (line_of line d) time place judgement

abbrev pub frame_turn : Sets → Day → ℕ → ℕ → List ℕ → Turn
frame_turn sets d line time frame =
    judged_turn d line time (frame_place d.market frame) (judged sets (context_of d.market line (line_of line d) time (frame_place d.market frame)) frame)

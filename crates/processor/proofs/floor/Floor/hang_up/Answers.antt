use Rattle.std.proofs.Common.{◌≡◌, ap, ◌∙◌}
use Rattle.std.proofs.lemmas.Result.{err_from_is_err_and}
use Rattle.books.specs.Sets.{Sets}
use Rattle.day.specs.Call.{hang_up, left, of_line}
use Rattle.day.specs.LineCalls.{line_turn}
use Rattle.day.specs.State.{line_of}
use Rattle.day.specs.Step.{refusing, step, turned}
use Rattle.processor.specs.Held.{day_of}
use Rattle.processor.proofs.Calls.{line_goes, line_refused}
use Rattle.processor.proofs.floor.Floor.hang_up.Goals as goal

pub returns-in_err-check_hang_up : goal.returns-in_err-check_hang_up
returns-in_err-check_hang_up c =
    let d = day_of c.args.self.now in
    let same : (sets : Sets) → refusing d c.in_err-check_hang_up.field-0.0 ≡ step sets d (of_line c.args.line hang_up) =
    λ sets. line_refused sets d c.args.line hang_up c.in_err-check_hang_up.field-0.0 c.in_err-check_hang_up.ensures in
    let p = err_from_is_err_and c.from_residual.result c.from_residual.ensures.1 in
    rw (p.1, p.2) (record { said = λ sets. ap (λ s. s.said) (same sets); leaves = λ sets. ap (λ s. s.day) (same sets) })

pub returns : goal.returns
unfolding line_turn
returns c =
    let d = day_of c.args.self.now in
    let same : (sets : Sets) → turned d c.args.line (line_turn sets d.market c.args.line (line_of c.args.line d) hang_up) ≡ step sets d (of_line c.args.line hang_up) =
    λ sets. line_goes sets d c.args.line hang_up c.in_ok-check_hang_up.ensures in
    record { said = λ sets. ap (λ cut. left cut) (ap (λ s. s.cut) c.status-cut.ensures) ∙ ap (λ s. s.said) (same sets); leaves = λ sets. c.seat.ensures ∙ ap (λ s. s.day) (same sets) }

use Rattle.std.proofs.Common.{◌≡◌, ap, ◌∙◌}
use Rattle.std.proofs.lemmas.Result.{err_from_is_err_and}
use Rattle.books.specs.Sets.{Sets}
use Rattle.day.specs.Call.{log_in, of_line}
use Rattle.day.specs.LineCalls.{line_turn}
use Rattle.day.specs.State.{line_of}
use Rattle.day.specs.Step.{refusing, step, turned}
use Rattle.processor.specs.Held.{day_of}
use Rattle.processor.proofs.Calls.{line_goes, line_refused}
use Rattle.processor.proofs.floor.Floor.log_in.Goals as goal

pub returns-in_err-check_log_in : goal.returns-in_err-check_log_in
returns-in_err-check_log_in c =
    let d = day_of c.args.self.now in
    let same : (sets : Sets) → refusing d c.in_err-check_log_in.field-0.0 ≡ step sets d (of_line c.args.line log_in) =
    λ sets. line_refused sets d c.args.line log_in c.in_err-check_log_in.field-0.0 c.in_err-check_log_in.ensures in
    let p = err_from_is_err_and c.from_residual.result c.from_residual.ensures.1 in
    rw (p.1, p.2) (record { said = λ sets. ap (λ s. s.said) (same sets); leaves = λ sets. ap (λ s. s.day) (same sets) })

pub returns : goal.returns
unfolding line_turn
returns c =
    let d = day_of c.args.self.now in
    let same : (sets : Sets) → turned d c.args.line (line_turn sets d.market c.args.line (line_of c.args.line d) log_in) ≡ step sets d (of_line c.args.line log_in) =
    λ sets. line_goes sets d c.args.line log_in c.in_ok-check_log_in.ensures in
    record { said = λ sets. ap (λ s. s.said) (same sets); leaves = λ sets. c.seat.ensures ∙ ap (λ s. s.day) (same sets) }

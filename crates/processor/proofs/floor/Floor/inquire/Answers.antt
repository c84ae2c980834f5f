use Rattle.std.proofs.Common.{◌≡◌, length, ap, ◌∙◌}
use Rattle.std.proofs.lemmas.Result.{err_from_is_err_and}
use Rattle.books.specs.Sets.{Sets}
use Rattle.day.specs.Call.{inquire, of_line, told}
use Rattle.day.specs.LineCalls.{line_turn}
use Rattle.day.specs.State.{line_of}
use Rattle.day.specs.Step.{buffer_after, refusing, step, turned}
use Rattle.processor.specs.Held.{day_of}
use Rattle.processor.proofs.Calls.{line_goes, line_refused}
use Rattle.processor.proofs.Turns.{same_turn}
use Rattle.processor.proofs.floor.Floor.inquire.Goals as goal

pub returns-in_err-check_inquire : goal.returns-in_err-check_inquire
returns-in_err-check_inquire c =
    let d = day_of c.args.self.now in
    let buffer = c.args.buffer.now in
    let call = inquire c.args.time c.args.symbol.now (length buffer) in
    let same : (sets : Sets) → refusing d c.in_err-check_inquire.field-0.0 ≡ step sets d (of_line c.args.line call) =
    λ sets. line_refused sets d c.args.line call c.in_err-check_inquire.field-0.0 c.in_err-check_inquire.ensures in
    let p = err_from_is_err_and c.from_residual.result c.from_residual.ensures.1 in
    rw (p.1, p.2) (record {
      said = λ sets. ap (λ s. s.said) (same sets);
      wrote = λ sets. ap (λ s. buffer_after s.wrote buffer) (same sets);
      same = λ sets. ap (λ s. s.day) (same sets);
    })

pub returns : goal.returns
unfolding line_turn
returns c =
    let d = day_of c.args.self.now in
    let buffer = c.args.buffer.now in
    let call = inquire c.args.time c.args.symbol.now (length buffer) in
    let same : (sets : Sets) → turned d c.args.line (line_turn sets d.market c.args.line (line_of c.args.line d) call) ≡ step sets d (of_line c.args.line call) =
    λ sets. line_goes sets d c.args.line call c.in_ok-check_inquire.ensures in
    record {
      said = λ sets. ap (λ s. s.said) (same sets);
      wrote = λ sets. c.inquire_open.ensures ∙ ap (λ s. buffer_after s.wrote buffer) (same sets);
      same = λ sets. same_turn d c.args.line told ∙ ap (λ s. s.day) (same sets);
    }

use Rattle.std.proofs.Common.{length, ap, ◌∙◌}
use Rattle.std.proofs.lemmas.Result.{err_from_is_err_and}
use Rattle.day.specs.Call.{send}
use Rattle.day.specs.Step.{buffer_after}
use Rattle.processor.specs.Held.{day_of}
use Rattle.processor.proofs.Calls.{line_refused, send_goes}
use Rattle.processor.proofs.floor.Floor.send.Goals as goal

pub returns-in_err-check_send : goal.returns-in_err-check_send
returns-in_err-check_send g c =
    let buffer = c.args.buffer.now in
    let same = line_refused (g.B.CodeBook.sets c.args.book.now) (day_of c.args.self.now) c.args.line (send c.args.time c.args.frame.now (length buffer)) c.in_err-check_send.field-0.0 c.in_err-check_send.ensures in
    let p = err_from_is_err_and c.from_residual.result c.from_residual.ensures.1 in
    rw (p.1, p.2) (record { said = ap (λ s. s.said) same; leaves = ap (λ s. s.day) same; wrote = ap (λ s. buffer_after s.wrote buffer) same })

pub returns : goal.returns
returns g c =
    let buffer = c.args.buffer.now in
    let same = send_goes (g.B.CodeBook.sets c.args.book.now) (day_of c.args.self.now) c.args.line c.args.time c.args.frame.now (length buffer) c.in_ok-check_send.ensures in
    record {
      said = c.send_open.ensures.said ∙ ap (λ s. s.said) same;
      leaves = c.send_open.ensures.leaves ∙ ap (λ s. s.day) same;
      wrote = c.send_open.ensures.wrote ∙ ap (λ s. buffer_after s.wrote buffer) same;
    }

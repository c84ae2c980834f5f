use Rattle.std.proofs.Common.{◌<◌, Ok, codes, sym, ap, ◌∙◌, arith}
use Rattle.std.proofs.ByRecursion.{All-from_get_or}
use Rattle.std.proofs.lemmas.Result.{err_from_is_err_and}
use Rattle.wire.specs.Header.{asked_of, first_failing, unless}
use Rattle.wire.specs.TradeReport.{fields_of, frame_of}
use Rattle.wire.proofs.Again.{fails_alike, frame_again, none_failing}
use Rattle.wire.proofs.trade_report.TradeReport.read.Goals as goal

pub returns-in_err-check_header : goal.returns-in_err-check_header
returns-in_err-check_header c =
    let frame = c.args.frame.now in
    let p = err_from_is_err_and c.from_residual.result c.from_residual.ensures.1 in
    rw (p.1, p.2) (record { value = fails_alike (first_failing (asked_of (codes "TE") 72 frame)) tt (fields_of frame) _ c.in_err-check_header.ensures; again = tt })

pub returns : goal.returns
returns c =
    let frame = c.args.frame.now in
    let none = none_failing (first_failing (asked_of (codes "TE") 72 frame)) tt c.in_ok-check_header.ensures in
    let read = c.fields.ensures in
    record {
      value = ap (λ fields. Ok fields) read ∙ ap (λ failing. unless failing (fields_of frame)) (sym none);
      again = ap frame_of read ∙ frame_again frame none (All-from_get_or (λ b. b < 256) frame 0 (λ i h. omega (arith, c.type_inv.frame i)));
    }

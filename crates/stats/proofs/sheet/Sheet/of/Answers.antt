use Rattle.std.proofs.Common.{◌^◌, is_ok, sym, ap, ◌∙◌, rules}
use Rattle.std.proofs.lemmas.Result.{err_from_is_err_and}
use Rattle.stats.specs.Reports.{joined, latest_yes, earliest_first}
use Rattle.stats.specs.Sheets.{plain_of}
use Rattle.stats.proofs.Slices.{too_much, unordered_at, whole}
use Rattle.stats.proofs.sheet.Sheet.of.Goals as goal

pub loop-report-init : goal.loop-report-init
unfolding joined latest_yes earliest_first
loop-report-init g c = search rules

pub returns-in_err-note-clause-test : goal.returns-in_err-note-clause-test
returns-in_err-note-clause-test g c =
    ap is_ok (err_from_is_err_and c.from_residual.result c.from_residual.ensures.1).1
    ∙ sym
    (too_much g.Report.Enters.enter c.args.reports.now c.loop-report.report-index c.report-item.result (plain_of c.loop-report.sheet) (2 ^ 64)
    c.loop-report-test.true c.report-item.is c.loop-report.invariant.1 (sym c.in_err-note.ensures.test))

pub returns-clause-unordered : goal.returns-clause-unordered
returns-clause-unordered g c =
    let enter = g.Report.Enters.enter in
    let rs = c.args.reports.now in
    let s = plain_of c.loop-report.sheet in
    unordered_at enter rs s (whole enter rs c.loop-report.report-index s c.loop-report-test.false c.loop-report.invariant.1)

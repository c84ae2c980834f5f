use Rattle.std.proofs.Common.{◌≡◌, ◌^◌, ◌<◌, take}
use Rattle.stats.specs.Reports.{sheet_of}
use Rattle.stats.specs.Sheets.{plain_of}
use Rattle.stats.proofs.sheet.Sheet.of.Given as goal

abbrev pub invariant-loop-report : goal.invariant-loop-report
invariant-loop-report g l =
    (l.sheet.plain.volume < 2 ^ 64)
    × (plain_of l.sheet ≡ sheet_of g.Report.Enters.enter (take l.report-index l.reports))

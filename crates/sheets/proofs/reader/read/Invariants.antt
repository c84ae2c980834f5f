use Rattle.std.proofs.Common.{length}
use Rattle.sheets.proofs.Sofar.{Sofar}
use Rattle.sheets.proofs.reader.read.Given as goal

abbrev pub invariant-loop-rest : goal.invariant-loop-rest
invariant-loop-rest g l = Sofar g.R.SheetRow.rules l.text l.rest l.initial.table l.table l.count

abbrev pub decreases-loop-rest : goal.decreases-loop-rest
decreases-loop-rest g l = length l.rest

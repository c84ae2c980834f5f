use Rattle.marks.proofs.Sweeping.{Sweeping}
use Rattle.marks.proofs.sweep.Sweep.apply.Given as goal

abbrev pub invariant-loop-security : goal.invariant-loop-security
invariant-loop-security l = Sweeping l.self.action l.self.range l.from l.symbol-items l.initial.records l.records l.security l.count

use Rattle.std.proofs.Common.{◌≡◌, drop, map}
use Rattle.rows.specs.Asked.{first_failing}
use Rattle.rows.proofs.kind.ask_own.Given as goal

-- the rows that are left decide
abbrev pub invariant-loop-row : goal.invariant-loop-row
invariant-loop-row g l =
    let asks = g.K.Kind.asked (g.B.CodeBook.sets l.book) l.context l.frame in
    first_failing (map asks (drop l.row-index g.K.Kind.order)) ≡ first_failing (map asks g.K.Kind.order)

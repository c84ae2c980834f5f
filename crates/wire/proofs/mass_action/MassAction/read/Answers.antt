use Rattle.std.proofs.Common.{codes}
use Rattle.std.proofs.lemmas.Result.{err_from_is_err_and}
use Rattle.wire.specs.Header.{asked_of, first_failing}
use Rattle.wire.specs.MassAction.{action_fields}
use Rattle.wire.proofs.Again.{fails_alike}
use Rattle.wire.proofs.mass_action.MassAction.read.Goals as goal

pub returns-in_err-check_header : goal.returns-in_err-check_header
returns-in_err-check_header c =
    let frame = c.args.frame.now in
    let p = err_from_is_err_and c.from_residual.result c.from_residual.ensures.1 in
    rw (p.1, p.2) (fails_alike (first_failing (asked_of (codes "AU") 60 frame)) tt (action_fields frame) _ c.in_err-check_header.ensures)

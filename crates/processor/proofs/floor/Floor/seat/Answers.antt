use Rattle.std.proofs.Common.{ap, ◌∙◌}
use Rattle.day.specs.Call.{ticket}
use Rattle.day.specs.LineCalls.{seated}
use Rattle.day.specs.State.{line_of}
use Rattle.processor.specs.Held.{day_of, with_status}
use Rattle.processor.proofs.Turns.{status_turn}
use Rattle.processor.proofs.floor.Floor.seat.Goals as goal

pub returns : goal.returns
returns c =
    let d = day_of c.args.self.now in
    c.set_status.ensures
    ∙ ap (λ s. with_status d c.args.line (seated c.args.inside (record { status = s; records = (line_of c.args.line d).records })).status) c.status-status.ensures
    ∙ status_turn d c.args.line (ticket c.args.line) (seated c.args.inside (line_of c.args.line d)).status

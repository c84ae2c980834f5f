use Rattle.std.proofs.Common.{◌≡◌, false, Some, sym, ap, ◌∙◌}
use Rattle.verdicts.specs.Answer.{failed}
use Rattle.verdicts.specs.declared.answer.Verdict.TheVariants.{PassedOver, Rejected, Cut}
use Rattle.day.specs.Call.{answered}
use Rattle.day.specs.LineCalls.{after_reject, after_verdict, consumes_id, frame_consumed, quiet}
use Rattle.day.specs.State.{line_of}
use Rattle.day.specs.Step.{turned}
use Rattle.processor.specs.Held.{cut_status, day_of}
use Rattle.processor.proofs.Turns.{same_turn, status_turn}
use Rattle.processor.proofs.floor.Floor.fail.Goals as goal

pub returns-in-PassedOver : goal.returns-in-PassedOver
returns-in-PassedOver c =
    let d = day_of c.args.self.now in
    same_turn d c.args.line (answered (failed PassedOver))
    ∙ ap (λ v. (turned d c.args.line (quiet (answered (failed v)) (after_verdict (line_of c.args.line d) c.args.place v))).day) (sym c.in-PassedOver.is)

pub returns-in-Cut : goal.returns-in-Cut
returns-in-Cut c =
    let d = day_of c.args.self.now in
    c.cut.ensures
    ∙ status_turn d c.args.line (answered (failed (Cut c.in-Cut.reason))) (cut_status c.in-Cut.reason (line_of c.args.line d).status)
    ∙ ap (λ v. (turned d c.args.line (quiet (answered (failed v)) (after_verdict (line_of c.args.line d) c.args.place v))).day) (sym c.in-Cut.is)

pub returns-else-consumes_id : goal.returns-else-consumes_id
returns-else-consumes_id c =
    let d = day_of c.args.self.now in
    let line = line_of c.args.line d in
    let reason = c.in-Rejected.reason in
    let early : false ≡ consumes_id reason.row = sym c.if-consumes_id.false ∙ c.consumes_id.ensures in
    c.consume_frame.ensures
    ∙ status_turn d c.args.line (answered (failed (Rejected reason))) (frame_consumed line.status)
    ∙ ap (λ b. (turned d c.args.line (quiet (answered (failed (Rejected reason))) (record { status = frame_consumed line.status; records = after_reject b (Some c.in-Some.security) line.records }))).day) early
    ∙ ap (λ p. (turned d c.args.line (quiet (answered (failed (Rejected reason))) (after_verdict line p (Rejected reason)))).day) (sym c.in-Some.is)
    ∙ ap (λ v. (turned d c.args.line (quiet (answered (failed v)) (after_verdict line c.args.place v))).day) (sym c.in-Rejected.is)

pub returns-in-None : goal.returns-in-None
returns-in-None c =
    let d = day_of c.args.self.now in
    let line = line_of c.args.line d in
    c.consume_frame-in-None.ensures
    ∙ status_turn d c.args.line (answered (failed (Rejected c.in-Rejected.reason))) (frame_consumed line.status)
    ∙ ap (λ p. (turned d c.args.line (quiet (answered (failed (Rejected c.in-Rejected.reason))) (after_verdict line p (Rejected c.in-Rejected.reason)))).day) (sym c.in-None.is)
    ∙ ap (λ v. (turned d c.args.line (quiet (answered (failed v)) (after_verdict line c.args.place v))).day) (sym c.in-Rejected.is)

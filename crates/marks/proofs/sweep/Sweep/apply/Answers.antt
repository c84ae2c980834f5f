use Rattle.std.proofs.Common.{◌≡◌, ◌+◌, length, ap, arith}
use Rattle.marks.proofs.Sweeping.{one, sweeping-more, sweeping-none}
use Rattle.marks.proofs.sweep.Sweep.apply.Goals as goal
use Rattle.marks.proofs.sweep.Sweep.apply.Goals.{then-mark, else-mark}

pub loop-security-init : goal.loop-security-init
loop-security-init c = sweeping-none c.args.self.now.action c.args.self.now.range c.args.from c.symbols-symbol-items.result.now c.args.records.now

pub loop-security-preserved : goal.loop-security-preserved
loop-security-preserved c =
    let counted : c.if-mark.count ≡ c.loop-security.count + one c.mark.result =
    elim c.if-mark.branch [
      | then-mark w ↦ omega (arith, w.count-is, ap one w.if-mark.true)
      | else-mark w ↦ omega (arith, w.count-is, ap one w.if-mark.false)
    ] in
    sweeping-more c.args.self.now.action c.args.self.now.range c.loop-security.invariant (omega (arith, c.in_ok-get.ensures.lookup, ap length c.symbols-symbol-items.ensures)) c.loop-security-test.true _
    c.mark.new.record c.if-mark.count c.mark.result c.mark.ensures.after c.mark.ensures.applied counted

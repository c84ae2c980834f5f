use Rattle.std.proofs.Common.{◌≡◌, ℕ, ◌+◌, ◌*◌, ◌≤◌, length, drop, Some, Option, sym, ap, ◌∙◌, arith}
use Rattle.lists.specs.Listed.{securities_of}
use Rattle.marks.specs.Sweep.{sweep_leaves, sweep_tells}
use Rattle.day.specs.State.{line_count, security_count}
use Rattle.day.proofs.Parts.{ends_before}
use Rattle.processor.specs.Held.{day_of}
use Rattle.processor.proofs.Swept.{front-count, leaves, swept-part, tells}
use Rattle.processor.proofs.floor.Floor.sweep_line.Goals as goal

same : (m n : ℕ) → ◌≡◌ {A = Option ℕ} (Some m) (Some n) → m ≡ n
same m n e = cc

pub unreachable-requires : goal.unreachable-requires
unreachable-requires c =
    let d = day_of c.args.self.now in
    let symbols = securities_of c.args.self.now.market in
    let from = c.args.line * length symbols in
    let at = ap (λ n. c.args.line * n) c.security_count.ensures.value in
    let end : from + length symbols ≤ length d.records = omega (arith, ends_before c.args.line (line_count d.market) (security_count d.market) c.requires.line_listed, c.args.self.now.each_record) in
    let told = sym c.in-None.is ∙ c.apply.ensures.count ∙ ap (λ k. sweep_tells c.args.sweep.action c.args.sweep.range symbols d.records k) at ∙ tells c.args.sweep.action c.args.sweep.range symbols d.records from end in
    let z : ◌≡◌ {A = ℕ} 0 1 = cc in
    absurd (omega arith)

pub returns : goal.returns
returns c =
    let d = day_of c.args.self.now in
    let symbols = securities_of c.args.self.now.market in
    let from = c.args.line * length symbols in
    let at = ap (λ n. c.args.line * n) c.security_count.ensures.value in
    let end : from + length symbols ≤ length d.records = omega (arith, ends_before c.args.line (line_count d.market) (security_count d.market) c.requires.line_listed, c.args.self.now.each_record) in
    let told = sym c.in-Some.is ∙ c.apply.ensures.count ∙ ap (λ k. sweep_tells c.args.sweep.action c.args.sweep.range symbols d.records k) at ∙ tells c.args.sweep.action c.args.sweep.range symbols d.records from end in
    let after =
    c.apply.ensures.after ∙ ap (λ k. sweep_leaves c.args.sweep.action c.args.sweep.range symbols d.records k) at ∙ leaves c.args.sweep.action c.args.sweep.range symbols d.records from end
    ∙ swept-part c.args.sweep.action c.args.sweep.range symbols c.args.line d.records in
    record {
      count = same _ _ told ∙ front-count c.args.sweep.action c.args.sweep.range symbols (drop from d.records);
      leaves = λ i. record { market = d.market; statuses = d.statuses; records = after i; sheets = d.sheets; serial = d.serial };
    }

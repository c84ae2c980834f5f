use Rattle.std.proofs.Common.{sym, ap, ◌∙◌}
use Rattle.day.specs.LineCalls.{counted_by, marked_by}
use Rattle.day.specs.State.{line_of, security_count}
use Rattle.processor.specs.Held.{day_of, with_records}
use Rattle.processor.proofs.Turns.{part_back}
use Rattle.processor.proofs.floor.Floor.sweep_by.Goals as goal

pub returns-in-None : goal.returns-in-None
returns-in-None c =
    let d = day_of c.args.self.now in
    let records = (line_of c.args.line d).records in
    let back = sym (part_back (security_count d.market) c.args.line d.records) in
    record {
      count = ap (λ a. counted_by a c.args.range d.market.symbols records) (sym c.in-None.is);
      leaves =
          (λ i. record { market = d.market; statuses = d.statuses; records = back i; sheets = d.sheets; serial = d.serial })
          ∙ ap (λ a. with_records d c.args.line (marked_by a c.args.range d.market.symbols records)) (sym c.in-None.is);
    }

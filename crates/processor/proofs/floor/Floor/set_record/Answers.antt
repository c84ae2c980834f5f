use Rattle.std.proofs.Common.{set, ap, ◌∙◌, arith}
use Rattle.day.specs.State.{line_count, security_count}
use Rattle.day.proofs.Parts.{ends_before}
use Rattle.processor.specs.Held.{day_of}
use Rattle.processor.proofs.Arrays.{set-part}
use Rattle.processor.proofs.floor.Floor.set_record.Goals as goal

pub returns : goal.returns
returns c =
    let d = day_of c.args.self.now in
    let width = security_count d.market in
    let end = ends_before c.args.line (line_count d.market) width c.requires.line_listed in
    let all = ap (λ k. set d.records k c.args.center) c.place-place.ensures.value ∙ set-part width c.args.line c.args.security c.args.center d.records c.requires.security_listed (omega (arith, end, c.args.self.now.each_record)) in
    λ i. record { market = d.market; statuses = d.statuses; records = all i; sheets = d.sheets; serial = d.serial }

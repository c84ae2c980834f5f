use Rattle.std.proofs.Common.{◌≡◌, ◌+◌, ◌*◌, ap, arith}
use Rattle.day.specs.State.{line_count, security_count}
use Rattle.day.proofs.Parts.{ends_before}
use Rattle.processor.specs.Held.{day_of}
use Rattle.processor.proofs.floor.Floor.place.Goals as goal

pub returns : goal.returns
returns c =
    let d = day_of c.args.self.now in
    let end = ends_before c.args.line (line_count d.market) (security_count d.market) c.requires.line_listed in
    let same : c.args.line * c.security_count.result ≡ c.args.line * security_count d.market = ap (λ n. c.args.line * n) c.security_count.ensures.value in
    record { value = ap (λ n. c.args.line * n + c.args.security) c.security_count.ensures.value; within = omega (arith, end, c.args.self.now.each_record, c.requires.security_listed, same) }

use Rattle.std.proofs.Common.{get_or, ap, ◌∙◌}
use Rattle.stats.specs.Records.{no_record}
use Rattle.day.specs.State.{security_count}
use Rattle.processor.specs.Held.{day_of}
use Rattle.processor.proofs.Arrays.{read-part}
use Rattle.processor.proofs.floor.Floor.record.Goals as goal

pub returns : goal.returns
returns c =
    let d = day_of c.args.self.now in
    ap (λ k. get_or d.records k no_record) c.place.ensures.value ∙ read-part (security_count d.market) c.args.line d.records c.args.security no_record c.requires.security_listed

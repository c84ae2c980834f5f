use Rattle.std.proofs.Common.{sym, subst}
use Rattle.lists.specs.Listed.{lines_of, securities_of}
use Rattle.processor.specs.Lawful.{Lawful}
use Rattle.processor.proofs.Lawfully.{fresh_lawful}
use Rattle.processor.proofs.practice_day.Day.make.Goals as goal

pub invariant_of-result : goal.invariant_of-result
invariant_of-result c =
    let market = c.args.market in
    let l = subst Lawful (sym c.fresh.ensures) (fresh_lawful (securities_of market) (lines_of market) c.args.start c.args.records.now) in
    record { frames = l.frames; ids = l.ids; centers = l.centers; sound_centers = l.sound_centers; posted = l.posted; serial = l.serial; sheets = l.sheets; sound_sheets = l.sound_sheets }

use Rattle.std.proofs.Common.{sym, subst}
use Rattle.books.specs.Standard.{standard_sets}
use Rattle.day.specs.Call.{post}
use Rattle.processor.specs.Held.{day_of}
use Rattle.processor.specs.Lawful.{Lawful}
use Rattle.processor.proofs.Days.{of_day}
use Rattle.processor.proofs.Lawfully.{kept, operator_lawful}
use Rattle.processor.proofs.practice_day.Day.post.Goals as goal

pub post-requires : goal.post-requires
post-requires c = kept (day_of c.args.self.now.floor) (of_day c.args.self.now)

pub invariant_of-self : goal.invariant_of-self
invariant_of-self c =
    let day = c.args.self.now in
    let call = post c.args.symbol.now c.args.action in
    let l = subst Lawful (sym (c.post.ensures.leaves standard_sets)) (operator_lawful standard_sets (day_of day.floor) call (of_day day)) in
    record { frames = l.frames; ids = l.ids; centers = l.centers; sound_centers = l.sound_centers; posted = l.posted; serial = l.serial; sheets = l.sheets; sound_sheets = l.sound_sheets }

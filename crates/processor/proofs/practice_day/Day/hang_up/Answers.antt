use Rattle.std.proofs.Common.{sym, subst}
use Rattle.books.specs.Standard.{standard_sets}
use Rattle.day.specs.Call.{hang_up}
use Rattle.processor.specs.Held.{day_of}
use Rattle.processor.specs.Lawful.{Lawful}
use Rattle.processor.proofs.Days.{of_day}
use Rattle.processor.proofs.Lawfully.{kept, line_lawful}
use Rattle.processor.proofs.practice_day.Day.hang_up.Goals as goal

pub hang_up-requires : goal.hang_up-requires
hang_up-requires c = kept (day_of c.args.self.now.floor) (of_day c.args.self.now)

pub invariant_of-self : goal.invariant_of-self
invariant_of-self c =
    let day = c.args.self.now in
    let l = subst Lawful (sym (c.hang_up.ensures.leaves standard_sets)) (line_lawful standard_sets (day_of day.floor) c.args.ticket.line hang_up tt (of_day day)) in
    record { frames = l.frames; ids = l.ids; centers = l.centers; sound_centers = l.sound_centers; posted = l.posted; serial = l.serial; sheets = l.sheets; sound_sheets = l.sound_sheets }

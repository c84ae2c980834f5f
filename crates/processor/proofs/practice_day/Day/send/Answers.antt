use Rattle.std.proofs.Common.{◌<◌, length, sym, subst, arith}
use Rattle.std.proofs.ByRecursion.{All-from_get_or}
use Rattle.day.specs.Call.{send}
use Rattle.processor.specs.Held.{day_of}
use Rattle.processor.specs.Lawful.{Lawful}
use Rattle.processor.proofs.Days.{of_day}
use Rattle.processor.proofs.Lawfully.{kept, line_lawful}
use Rattle.processor.proofs.practice_day.Day.send.Goals as goal

pub send-requires : goal.send-requires
send-requires g c = kept (day_of c.args.self.now.floor) (of_day c.args.self.now)

pub invariant_of-self : goal.invariant_of-self
invariant_of-self g c =
    let day = c.args.self.now in
    let sets = g.B.CodeBook.sets c.args.book.now in
    let call = send c.args.time c.args.frame.now (length c.args.buffer.now) in
    let bytes = All-from_get_or (λ b. b < 256) c.args.frame.now 0 (λ i h. omega (arith, c.type_inv.frame i)) in
    let l = subst Lawful (sym c.send.ensures.leaves) (line_lawful sets (day_of day.floor) c.args.ticket.now.line call bytes (of_day day)) in
    record { frames = l.frames; ids = l.ids; centers = l.centers; sound_centers = l.sound_centers; posted = l.posted; serial = l.serial; sheets = l.sheets; sound_sheets = l.sound_sheets }

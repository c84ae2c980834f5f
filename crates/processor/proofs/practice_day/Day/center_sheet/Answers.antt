use Rattle.processor.specs.Held.{day_of}
use Rattle.processor.proofs.Days.{of_day}
use Rattle.processor.proofs.Lawfully.{kept}
use Rattle.processor.proofs.practice_day.Day.center_sheet.Goals as goal

pub center_sheet-requires : goal.center_sheet-requires
center_sheet-requires c = kept (day_of c.args.self.now.floor) (of_day c.args.self.now)

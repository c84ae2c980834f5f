use Rattle.processor.specs.Held.{day_of}
use Rattle.processor.proofs.Days.{of_day}
use Rattle.processor.proofs.Lawfully.{kept}
use Rattle.processor.proofs.practice_day.Day.consolidated_sheet.Goals as goal

pub consolidated_sheet-requires : goal.consolidated_sheet-requires
consolidated_sheet-requires c = kept (day_of c.args.self.now.floor) (of_day c.args.self.now)

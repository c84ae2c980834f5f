use Rattle.processor.specs.Held.{day_of}
use Rattle.processor.proofs.Days.{of_day}
use Rattle.processor.proofs.Lawfully.{kept}
use Rattle.processor.proofs.practice_day.Day.inquire.Goals as goal

pub inquire-requires : goal.inquire-requires
inquire-requires c = kept (day_of c.args.self.now.floor) (of_day c.args.self.now)

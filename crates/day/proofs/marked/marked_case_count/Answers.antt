use Rattle.std.proofs.Common.{refl}
use Rattle.day.proofs.MarkedCases.{marked}
use Rattle.day.proofs.marked.marked_case_count.Goals as goal

pub returns : goal.returns
returns c = record { count = refl; marked = marked }

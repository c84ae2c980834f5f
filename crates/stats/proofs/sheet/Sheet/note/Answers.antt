use Rattle.std.proofs.Common.{arith}
use Rattle.std.proofs.lemmas.Grind.{common_steps}
use Rattle.stats.proofs.Noting.{sheet-push}
use Rattle.stats.proofs.sheet.Sheet.note.Goals as goal

pub returns-clause-holds : goal.returns-clause-holds
returns-clause-holds g c ok rs held = grind (arith, common_steps, held, sheet-push g.Report.Enters.enter rs c.args.report)

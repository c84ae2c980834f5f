use Rattle.day.proofs.Sheets.{sheets_of_reports}
use Rattle.day.proofs.laws.sheets_are_their_reports.Goals as goal

pub returns : goal.returns
returns c = λ sets symbols originators start listed connected. sheets_of_reports sets symbols originators start

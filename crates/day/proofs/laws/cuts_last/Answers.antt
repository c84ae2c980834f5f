use Rattle.day.proofs.Cuts.{cut_lasts}
use Rattle.day.proofs.laws.cuts_last.Goals as goal

pub returns : goal.returns
returns c = λ sets symbols originators start listed connected. cut_lasts sets symbols originators start

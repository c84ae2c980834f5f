use Rattle.day.proofs.Apart.{lines_apart}
use Rattle.day.proofs.laws.lines_stand_apart.Goals as goal

pub returns : goal.returns
returns c = λ sets symbols originators start listed connected. lines_apart sets symbols originators start

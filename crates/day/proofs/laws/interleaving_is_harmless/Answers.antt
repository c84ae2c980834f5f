use Rattle.day.proofs.Interleaving.{interleaving_harmless}
use Rattle.day.proofs.laws.interleaving_is_harmless.Goals as goal

pub returns : goal.returns
returns c = λ sets symbols originators start listed connected. interleaving_harmless sets symbols originators start

use Rattle.day.proofs.Bounds.{never_wraps}
use Rattle.day.proofs.laws.numbers_never_wrap.Goals as goal

pub returns : goal.returns
returns c = λ sets symbols originators start listed connected. never_wraps sets symbols originators start
